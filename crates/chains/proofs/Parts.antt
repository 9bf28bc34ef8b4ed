-- Fewer memberships, fewer chains. Assumes nothing.
use Rattle.std.proofs.Common.{◌≡◌, ℕ, zero, suc, ◌≤◌, Bool, true, false, cond, refl, arith}
use mathlib.Core.Bool.{false≢true}
use Rattle.chains.specs.Chains.{Members, Short, PartOf, count}
use Rattle.lists.proofs.Sums.{sum_le}
use Rattle.chains.proofs.Counts.{recurrence}
use Rattle.chains.proofs.Steps.{chain_more}
use Rattle.chains.proofs.Added.{count_start}

cond_le : (s t : Bool) (x y : ℕ) → (s ≡ true → t ≡ true) → x ≤ y → cond s x 0 ≤ cond t y 0
cond_le true true x y h l = l
cond_le true false x y h l = absurd (false≢true (h refl))
cond_le false t x y h l = omega arith

pub part_counts : (n : ℕ) (E F : Members) → PartOf E F → (k a s : ℕ) → count n E a s k ≤ count n F a s k
part_counts n E F h zero a s = let e = count_start n E a s in let f = count_start n F a s in omega arith
part_counts n E F h (suc k) a s =
    let e = recurrence n E a s k in
    let f = recurrence n F a s k in
    let l = sum_le n (λ m. cond (E a m) (count n E m s k) 0) (λ m. cond (F a m) (count n F m s k) 0)
    (λ m b. cond_le (E a m) (F a m) (count n E m s k) (count n F m s k) (h a m) (part_counts n E F h k m s)) in
    omega arith

pub part_short : {E F : Members} → PartOf E F → Short F → Short E
part_short h short a s k c = short a s k (chain_more h c)
