-- What a table of counts tells. Assumes nothing.
use Rattle.std.proofs.Common.{◌≡◌, ℕ, zero, suc, ◌<◌, ◌≤◌, Bool, true, false, cond, eqb, ◌⊎◌, refl, ap, ◌∙◌, inl, inr, arith}
use Rattle.std.proofs.lemmas.Bool.{eq-eqb, ne_eqb, cond-false, cases_lt}
use Rattle.chains.specs.Chains.{Members, Chain, Within, Short, NoChain, no_members, count}
use Rattle.lists.proofs.Sums.{sum_one, sum_zero}
use Rattle.chains.proofs.Counts.{recurrence}
use Rattle.chains.proofs.Steps.{chain_front, chain_first, chain_end_known}
use Rattle.chains.proofs.Listing.{chain_is_counted, counted_is_chain}
use Rattle.chains.proofs.Added.{count_start}

pub count_self : (n : ℕ) (E : Members) (a : ℕ) → count n E a a 0 ≡ 1
count_self n E a = rw (count_start n E a a, eq-eqb a a refl)

-- one membership is a chain of length 1
pub count_one : (n : ℕ) (E : Members) (g m : ℕ) → m < n → count n E g m 1 ≡ cond (E g m) 1 0
count_one n E g m l =
    recurrence n E g m 0
    ∙ sum_one n (λ x. cond (E g x) (count n E x m 0) 0) m l (λ x k d. other x d (E g x))
    ∙ ap (λ (x : ℕ). cond (E g m) x 0) (count_self n E m)
  where
    other : (x : ℕ) → (x ≡ m → ⊥) → (t : Bool) → cond t (count n E x m 0) 0 ≡ 0
    other x d true = count_start n E x m ∙ cond-false (eqb x m) 1 0 (ne_eqb x m d)
    other x d false = refl

pub count_no_members : (n a s k : ℕ) → count n no_members a s (suc k) ≡ 0
count_no_members n a s k = recurrence n no_members a s k ∙ sum_zero n (λ m. 0) (λ m l. refl)

pub chain_or_none : (n : ℕ) (E : Members) → Within n E → (a s k : ℕ) → Chain E a k s ⊎ (count n E a s k ≡ 0)
chain_or_none n E w a s k = split (count n E a s k) refl
  where
    split : (x : ℕ) → count n E a s k ≡ x → Chain E a k s ⊎ (count n E a s k ≡ 0)
    split zero e = inr e
    split (suc x) e = inl (counted_is_chain n E a s k (omega arith))

-- eight counts tell whether any chain leads from c to p
pub none_counted : (n : ℕ) (E : Members) → Within n E → Short E → (c p : ℕ) → ((k : ℕ) → k < 8 → count n E c p k ≡ 0) → NoChain E c p
none_counted n E w short c p none k d =
    let some = chain_is_counted n E w d in
    let zero = none k (short c p k d) in
    omega arith

-- no chain of length 8 is counted: then none is longer than 7
pub short_by_eight : (n : ℕ) (E : Members) → Within n E → ((a s : ℕ) → a < n → s < n → count n E a s 8 ≡ 0) → Short E
short_by_eight n E w none a s k d = pick (cases_lt k 8)
  where
    pick : (k < 8) ⊎ (8 ≤ k) → k < 8
    pick (inl l) = l
    pick (inr l) =
        let front = chain_front 8 l d in
        let first = chain_first front.1 in
        let some = chain_is_counted n E w front.1 in
        let zero = none a front.0 (w a first.0 first.1).0 (chain_end_known w (w a first.0 first.1).0 front.1) in
        absurd (omega arith)

pub eight_when_short : (n : ℕ) (E : Members) → Within n E → Short E → (a s : ℕ) → count n E a s 8 ≡ 0
eight_when_short n E w short a s = pick (chain_or_none n E w a s 8)
  where
    pick : Chain E a 8 s ⊎ (count n E a s 8 ≡ 0) → count n E a s 8 ≡ 0
    pick (inl d) = let l = short a s 8 d in absurd (omega arith)
    pick (inr e) = e

-- a bound on the counts of a table is a bound on all counts
pub few_everywhere : (n : ℕ) (E : Members) → Within n E → Short E → (b : ℕ) → 1 ≤ b →
    ((a s k : ℕ) → a < n → s < n → k < 8 → count n E a s k ≤ b) → (a s k : ℕ) → count n E a s k ≤ b
few_everywhere n E w short b one few a s zero = start (eqb a s) (count_start n E a s)
  where
    start : (t : Bool) → count n E a s 0 ≡ cond t 1 0 → count n E a s 0 ≤ b
    start true e = omega arith
    start false e = omega arith
few_everywhere n E w short b one few a s (suc k) = pick (chain_or_none n E w a s (suc k))
  where
    pick : Chain E a (suc k) s ⊎ (count n E a s (suc k) ≡ 0) → count n E a s (suc k) ≤ b
    pick (inl d) =
        let first = chain_first d in
        let top = (w a first.0 first.1).0 in
        few a s (suc k) top (chain_end_known w top d) (short a s (suc k) d)
    pick (inr e) = omega arith
