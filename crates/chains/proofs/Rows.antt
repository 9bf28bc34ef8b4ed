-- Counts row by row: a chain cut anywhere, and its last step. Assumes nothing.
use Rattle.std.proofs.Common.{◌≡◌, ℕ, zero, suc, ◌+◌, ◌*◌, ◌<◌, Bool, true, false, cond, eqb, sym, ap, ◌∙◌, suc-add, mul-zero, zero-add, zero-mul, mul-one, add-one, arith}
use Rattle.std.proofs.lemmas.Bool.{ne_eqb, cond-false}
use Rattle.lists.specs.Lists.{sum_below}
use Rattle.chains.specs.Chains.{Members, count}
use Rattle.lists.proofs.Sums.{sum_same, sum_one, sum_swap, sum_times}
use Rattle.chains.proofs.Counts.{recurrence}
use Rattle.chains.proofs.Added.{count_start, cond_times, cond_sum}
use Rattle.chains.proofs.Table.{count_self, count_one}

count_other : (n : ℕ) (E : Members) (a s : ℕ) → (a ≡ s → ⊥) → count n E a s 0 ≡ 0
count_other n E a s d = count_start n E a s ∙ cond-false (eqb a s) 1 0 (ne_eqb a s d)

-- every chain of length i + j passes exactly one account after i memberships
pub count_cut : (n : ℕ) (E : Members) (s j i a : ℕ) → a < n → count n E a s (i + j) ≡ sum_below n (λ m. count n E a m i * count n E m s j)
count_cut n E s j zero a l =
    let one = sum_one n (λ m. count n E a m 0 * count n E m s j) a l (λ m b d. rw (count_other n E a m (λ e. d (sym e))) (zero-mul _)) in
    let self = count_self n E a in
    let at : count n E a a 0 * count n E a s j ≡ count n E a s j = rw self (omega arith) in
    ap (count n E a s) (zero-add j) ∙ sym (one ∙ at)
count_cut n E s j (suc i) a l =
    ap (count n E a s) (suc-add i j)
    ∙ recurrence n E a s (i + j)
    ∙ sum_same n (λ x. cond (E a x) (count n E x s (i + j)) 0) (λ x. sum_below n (λ m. cond (E a x) (count n E x m i) 0 * count n E m s j)) (λ x b. inside x (count_cut n E s j i x b))
    ∙ sum_swap n n (λ x m. cond (E a x) (count n E x m i) 0 * count n E m s j)
    ∙ sum_same n (λ m. sum_below n (λ x. cond (E a x) (count n E x m i) 0 * count n E m s j)) (λ m. count n E a m (suc i) * count n E m s j) (λ m b. outside m)
  where
    inside : (x : ℕ) → count n E x s (i + j) ≡ sum_below n (λ m. count n E x m i * count n E m s j) →
        cond (E a x) (count n E x s (i + j)) 0 ≡ sum_below n (λ m. cond (E a x) (count n E x m i) 0 * count n E m s j)
    inside x rest =
        ap (λ (y : ℕ). cond (E a x) y 0) rest
        ∙ cond_sum (E a x) n (λ m. count n E x m i * count n E m s j)
        ∙ sum_same n (λ m. cond (E a x) (count n E x m i * count n E m s j) 0) (λ m. cond (E a x) (count n E x m i) 0 * count n E m s j)
        (λ m b. cond_times (E a x) (count n E x m i) (count n E m s j))

    outside : (m : ℕ) → sum_below n (λ x. cond (E a x) (count n E x m i) 0 * count n E m s j) ≡ count n E a m (suc i) * count n E m s j
    outside m =
        sum_times n (λ x. cond (E a x) (count n E x m i) 0) (count n E m s j)
        ∙ ap (λ (y : ℕ). y * count n E m s j) (sym (recurrence n E a m i))

-- a chain ends with one membership of its last group
pub recurrence_last : (n : ℕ) (E : Members) (a s k : ℕ) → a < n → s < n → count n E a s (suc k) ≡ sum_below n (λ m. cond (E m s) (count n E a m k) 0)
recurrence_last n E a s k la ls =
    ap (count n E a s) (sym (add-one k))
    ∙ count_cut n E s 1 k a la
    ∙ sum_same n (λ m. count n E a m k * count n E m s 1) (λ m. cond (E m s) (count n E a m k) 0) (λ m b. last m)
  where
    pick : (t : Bool) (x : ℕ) → x * cond t 1 0 ≡ cond t x 0
    pick true x = mul-one x
    pick false x = mul-zero x

    last : (m : ℕ) → count n E a m k * count n E m s 1 ≡ cond (E m s) (count n E a m k) 0
    last m = ap (λ (y : ℕ). count n E a m k * y) (count_one n E m s ls) ∙ pick (E m s) (count n E a m k)
