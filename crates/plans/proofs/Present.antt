-- The containers that are there, one after the other. Assumes nothing.
use Rattle.std.proofs.Common.{◌≡◌, ℕ, zero, suc, List, [], ◌∷◌, ◌++◌, get_or, drop, Some, None, Option, refl, ap}
use Rattle.std.specs.Option.{option_to_list}
use Rattle.plans.specs.Items.{present}

-- at a place with a container, that comes before the rest
pub present_some : (xs : List (Option ℕ)) (i c : ℕ) → get_or xs i None ≡ Some c → present (drop i xs) ≡ c ∷ present (drop (suc i) xs)
present_some [] i c e = absurd (cc)
present_some (x ∷ xs) zero c e = ap (λ y. option_to_list y ++ present xs) e
present_some (x ∷ xs) (suc i) c e = present_some xs i c e

-- at a place with none, the rest is all
pub present_none : (xs : List (Option ℕ)) (i : ℕ) → get_or xs i None ≡ None → present (drop i xs) ≡ present (drop (suc i) xs)
present_none [] zero e = refl
present_none [] (suc i) e = refl
present_none (x ∷ xs) zero e = ap (λ y. option_to_list y ++ present xs) e
present_none (x ∷ xs) (suc i) e = present_none xs i e
