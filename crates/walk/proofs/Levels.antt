-- The rows of weights, level by level, and the chains that they sum up. Assumes nothing.
use Rattle.std.proofs.Common.{◌≡◌, ℕ, zero, suc, ◌<◌, ◌≤◌, Bool, true, false, cond, eqb, ◌⊎◌, [], ◌∷◌, map, sym, refl, ap, ◌∙◌, subst, inl, inr, arith}
use Rattle.std.proofs.lemmas.List.{map-append}
use Rattle.lists.specs.Lists.{below, keep}
use Rattle.chains.specs.Chains.{Members, chains}
use Rattle.walk.specs.Weights.{Laws, total, times, arriving, arrivals}
use Rattle.walk.specs.Levels.{from_groups, down}
use Rattle.std.proofs.lemmas.Bool.{cases_lt}
use Rattle.walk.proofs.Totals.{total_none, neutral_right, map_same, map_map, map_join, kept_same, times_inside, total_push, total_join, times_total, total_swap, total_keep, total_cond, total_one}

module _ {W : Type 0} {none : W} {add : W → W → W} {next : W → W} (laws : Laws none add next) (n : ℕ) (E : Members) where
  -- one chain of length 0 leads to s
  level_none : (start : ℕ → W) (s : ℕ) → s < n → start s ≡ total none add (arriving next n E start s 0)
  unfolding chains
  level_none start s h =
      sym (total_one laws start s n h)
      ∙ ap (total none add) (map_same (λ a. at a (eqb a s)) (below n))
      ∙ sym (total_join laws (λ a. map (λ path. start a) (chains n E a s 0)) (below n))
    where
      at : (a : ℕ) (b : Bool) → cond b (start a) none ≡ total none add (map (λ path. start a) (cond b ((a ∷ []) ∷ []) []))
      at a true = sym (total_push laws [] (start a) ∙ laws.neutral (start a))
      at a false = refl

  -- the weights that arrive from m, where each comes from the groups of m
  level_split : (start : ℕ → W) (s k m : ℕ) → total none add (map (λ path. times next k (down none add next n E start m)) (chains n E m s k)) ≡ total none add (map (λ g. cond (E g m) (total none add (map (λ path. times next (suc k) (start g)) (chains n E m s k))) none) (below n))
  level_split start s k m =
      ap (λ w. total none add (map (λ path. w) (chains n E m s k))) spread
      ∙ total_swap laws (λ path g. cond (E g m) (times next (suc k) (start g)) none) (chains n E m s k) (below n)
      ∙ ap (total none add) (map_same (λ g. total_cond laws (E g m) (times next (suc k) (start g)) (chains n E m s k)) (below n))
    where
      spread : times next k (down none add next n E start m) ≡ total none add (map (λ g. cond (E g m) (times next (suc k) (start g)) none) (below n))
      spread =
          times_total laws k (from_groups next n E start m)
          ∙ ap (total none add)
          (map_map (times next k) (λ g. next (start g)) (keep (λ g. E g m) (below n))
          ∙ map_same (λ g. sym (times_inside next k (start g))) (keep (λ g. E g m) (below n)))
          ∙ total_keep laws (λ g. times next (suc k) (start g)) (λ g. E g m) (below n)

  -- the chains of length k + 1 from a, by their second account
  level_join : (w : W) (s k a : ℕ) → total none add (map (λ m. total none add (map (λ path. w) (chains n E m s k))) (keep (E a) (below n))) ≡ total none add (map (λ path. w) (chains n E a s (suc k)))
  unfolding chains
  level_join w s k a =
      sym
      (ap (total none add) (map_join (λ path. w) (λ m. map (λ path. a ∷ path) (chains n E m s k)) (keep (E a) (below n)))
      ∙ total_join laws (λ m. map (λ path. w) (map (λ path. a ∷ path) (chains n E m s k))) (keep (E a) (below n))
      ∙ ap (total none add)
      (map_same (λ m. ap (total none add) (map_map (λ path. w) (λ path. a ∷ path) (chains n E m s k))) (keep (E a) (below n))))

  -- the row on level k holds, at each account, the sum over all chains of length k to it
  pub level_is : (k : ℕ) (start : ℕ → W) (s : ℕ) → s < n → times (down none add next n E) k start s ≡ total none add (arriving next n E start s k)
  level_is zero start s h = level_none start s h
  level_is (suc k) start s h =
      ap (λ row. row s) (times_inside (down none add next n E) k start)
      ∙ level_is k (down none add next n E start) s h
      ∙ total_join laws (λ m. map (λ path. times next k (down none add next n E start m)) (chains n E m s k)) (below n)
      ∙ ap (total none add) (map_same (level_split start s k) (below n))
      ∙ total_swap laws
      (λ m g. cond (E g m) (total none add (map (λ path. times next (suc k) (start g)) (chains n E m s k))) none) (below n) (below n)
      ∙ ap (total none add)
      (map_same
      (λ a. sym (total_keep laws (λ m. total none add (map (λ path. times next (suc k) (start a)) (chains n E m s k))) (E a) (below n))
      ∙ level_join (times next (suc k) (start a)) s k a)
      (below n))
      ∙ sym (total_join laws (λ a. map (λ path. times next (suc k) (start a)) (chains n E a s (suc k))) (below n))

  -- all levels together
  pub levels_are : (start : ℕ → W) (s : ℕ) → s < n → total none add (map (λ k. times (down none add next n E) k start s) (below 8)) ≡ total none add (arrivals next n E start s 8)
  unfolding arrivals
  levels_are start s h =
      ap (total none add) (map_same (λ k. level_is k start s h) (below 8))
      ∙ sym (total_join laws (arriving next n E start s) (below 8))

  -- one level further down, from a row that is right at the accounts below n
  pub down_same : (row other : ℕ → W) (m : ℕ) → ((g : ℕ) → g < n → row g ≡ other g) → down none add next n E row m ≡ down none add next n E other m
  down_same row other m h =
      ap (total none add) (kept_same (λ g. next (row g)) (λ g. next (other g)) (λ g. E g m) n (λ g l. ap next (h g l)))

  -- one level more
  pub levels_more : (start : ℕ → W) (s k : ℕ) → total none add (map (λ j. times (down none add next n E) j start s) (below (suc k))) ≡ add (total none add (map (λ j. times (down none add next n E) j start s) (below k))) (times (down none add next n E) k start s)
  levels_more start s k =
      ap (total none add) (map-append (λ j. times (down none add next n E) j start s) (below k) (k ∷ []))
      ∙ total_push laws (map (λ j. times (down none add next n E) j start s) (below k)) (times (down none add next n E) k start s)

  -- a row with nothing brings nothing down
  down_none : (row : ℕ → W) → ((g : ℕ) → g < n → row g ≡ none) → (m : ℕ) → down none add next n E row m ≡ none
  down_none row h m =
      down_same row (λ g. none) m h
      ∙ ap (λ w. total none add (map (λ (g : ℕ). w) (keep (λ g. E g m) (below n)))) laws.keeps
      ∙ total_none laws (keep (λ g. E g m) (below n))

  -- below a level with nothing there is nothing
  none_below : (start : ℕ → W) (k : ℕ) → ((x : ℕ) → x < n → times (down none add next n E) k start x ≡ none) → (j : ℕ) → k ≤ j → (x : ℕ) → x < n → times (down none add next n E) j start x ≡ none
  none_below start k h zero l = let e : k ≡ 0 = omega arith in subst (λ i. (x : ℕ) → x < n → times (down none add next n E) i start x ≡ none) e h
  none_below start k h (suc j) l = go (cases_lt j k) (λ b. none_below start k h j b)
    where
      go : (j < k) ⊎ (k ≤ j) → (k ≤ j → (x : ℕ) → x < n → times (down none add next n E) j start x ≡ none) → (x : ℕ) → x < n → times (down none add next n E) (suc j) start x ≡ none
      go (inl b) before = let e : k ≡ suc j = omega arith in subst (λ i. (x : ℕ) → x < n → times (down none add next n E) i start x ≡ none) e h
      go (inr b) before = λ x small. down_none (times (down none add next n E) j start) (before b) x

  -- so the sum over the levels down to it is the whole sum
  pub levels_stop : (start : ℕ → W) (s k : ℕ) → s < n → ((x : ℕ) → x < n → times (down none add next n E) k start x ≡ none) → (j : ℕ) → k ≤ j → total none add (map (λ i. times (down none add next n E) i start s) (below (suc j))) ≡ total none add (map (λ i. times (down none add next n E) i start s) (below (suc k)))
  levels_stop start s k small h zero l = let e : 0 ≡ k = omega arith in ap (λ j. total none add (map (λ i. times (down none add next n E) i start s) (below (suc j)))) e
  levels_stop start s k small h (suc j) l = go (cases_lt j k) (λ b. levels_stop start s k small h j b)
    where
      go : (j < k) ⊎ (k ≤ j) → (k ≤ j → total none add (map (λ i. times (down none add next n E) i start s) (below (suc j))) ≡ total none add (map (λ i. times (down none add next n E) i start s) (below (suc k)))) → total none add (map (λ i. times (down none add next n E) i start s) (below (suc (suc j)))) ≡ total none add (map (λ i. times (down none add next n E) i start s) (below (suc k)))
      go (inl b) before = let e : suc j ≡ k = omega arith in ap (λ i. total none add (map (λ x. times (down none add next n E) x start s) (below (suc i)))) e
      go (inr b) before =
          levels_more start s (suc j)
          ∙ ap (add (total none add (map (λ i. times (down none add next n E) i start s) (below (suc j))))) (none_below start k h (suc j) l s small)
          ∙ neutral_right laws (total none add (map (λ i. times (down none add next n E) i start s) (below (suc j))))
          ∙ before b
