-- Rows in which nothing is counted. Assumes nothing.
use Rattle.std.proofs.Common.{◌≡◌, ℕ, zero, suc, ◌<◌, Bool, true, false, ◌||◌, ltb, List, [], ◌∷◌, length, get_or, replicate, refl, ap, ◌∙◌, arith}
use Rattle.std.proofs.lemmas.List.{length-replicate, get_or-replicate}
use Rattle.std.proofs.lemmas.Bool.{ltb-false}
use Rattle.lists.specs.Lists.{some}
use Rattle.plans.specs.Counts.{row_at, entry}

-- an empty row has no number but 0
pub empty_row : (xs : List ℕ) (k : ℕ) → some (ltb 0) xs ≡ false → get_or xs k 0 ≡ 0
empty_row [] k e = refl
empty_row (x ∷ xs) zero e = let z = or_left (ltb 0 x) (some (ltb 0) xs) e in let l = ltb-false 0 x z in omega arith
  where
    or_left : (p q : Bool) → (p || q) ≡ false → p ≡ false
    or_left true q e' = absurd (let z : ◌≡◌ {A = ℕ} 0 1 = cc in omega arith)
    or_left false q e' = refl
empty_row (x ∷ xs) (suc k) e = empty_row xs k (or_right (ltb 0 x) (some (ltb 0) xs) e)
  where
    or_right : (p q : Bool) → (p || q) ≡ false → q ≡ false
    or_right true q e' = absurd (let z : ◌≡◌ {A = ℕ} 0 1 = cc in omega arith)
    or_right false q e' = e'

-- a row of zeros, and a table of them
zero_row : (n k : ℕ) → get_or (replicate {A = ℕ} n 0) k 0 ≡ 0
zero_row zero k = refl
zero_row (suc n) zero = refl
zero_row (suc n) (suc k) = zero_row n k

row_none : (b : ℕ) → b < 256 → get_or (replicate 256 (replicate {A = ℕ} 8 0)) b [] ≡ replicate {A = ℕ} 8 0
row_none b l = get_or-replicate {A = List ℕ} 256 b (replicate 8 0) [] l

pub none_counted : (b k : ℕ) → b < 256 → entry (replicate 256 (replicate {A = ℕ} 8 0)) b k ≡ 0
none_counted b k l = ap (λ (row : List ℕ). get_or row k 0) (row_none b l) ∙ zero_row 8 k

pub none_wide : (b : ℕ) → b < 256 → length (row_at (replicate 256 (replicate {A = ℕ} 8 0)) b) ≡ 8
none_wide b l = ap length (row_none b l) ∙ length-replicate {A = ℕ} 8 0
