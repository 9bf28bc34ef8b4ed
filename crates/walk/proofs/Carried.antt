-- What arrives in one kind of weight, read off another that adds and steps alike. Assumes nothing.
use Rattle.std.proofs.Common.{◌≡◌, ℕ, zero, suc, List, [], ◌∷◌, map, refl, ap, ◌∙◌}
use mathlib.Core.Path.{fun_ext}
use Rattle.lists.specs.Lists.{below, join_all}
use Rattle.chains.specs.Chains.{Members, chains}
use Rattle.walk.specs.Weights.{total, times, arriving, arrivals}
use Rattle.walk.proofs.Totals.{map_map, map_same, map_join}

module _ {X Y : Type 0} (none : X) (add : X → X → X) (next : X → X) (none' : Y) (add' : Y → Y → Y) (next' : Y → Y)
    (h : X → Y) (nones : h none ≡ none') (sums : (x y : X) → h (add x y) ≡ add' (h x) (h y)) (steps : (x : X) → h (next x) ≡ next' (h x)) where
  total_carried : (xs : List X) → h (total none add xs) ≡ total none' add' (map h xs)
  total_carried [] = nones
  total_carried (x ∷ xs) = sums x (total none add xs) ∙ ap (add' (h x)) (total_carried xs)

  times_carried : (k : ℕ) (x : X) → h (times next k x) ≡ times next' k (h x)
  times_carried zero x = refl
  times_carried (suc k) x = steps (times next k x) ∙ ap next' (times_carried k x)

  module _ (n : ℕ) (E : Members) (start : ℕ → X) (s : ℕ) where
    arriving_carried : (k : ℕ) → map h (arriving next n E start s k) ≡ arriving next' n E (λ a. h (start a)) s k
    arriving_carried k =
        map_join h (λ a. map (λ path. times next k (start a)) (chains n E a s k)) (below n)
        ∙ joined (λ a. map h (map (λ path. times next k (start a)) (chains n E a s k))) (λ a. map (λ path. times next' k (h (start a))) (chains n E a s k))
        (λ a. map_map h (λ path. times next k (start a)) (chains n E a s k) ∙ map_same (λ path. times_carried k (start a)) (chains n E a s k)) (below n)
      where
        joined : (f g : ℕ → List Y) → ((a : ℕ) → f a ≡ g a) → (xs : List ℕ) → join_all f xs ≡ join_all g xs
        joined f g e xs = ap (λ p. join_all p xs) (fun_ext e)

    pub carried : (many : ℕ) → h (total none add (arrivals next n E start s many)) ≡ total none' add' (arrivals next' n E (λ a. h (start a)) s many)
    unfolding arrivals
    carried many =
        total_carried (arrivals next n E start s many)
        ∙ ap (total none' add')
        (map_join h (arriving next n E start s) (below many)
        ∙ ap (λ p. join_all p (below many)) (fun_ext arriving_carried))
