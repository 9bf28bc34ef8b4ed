-- The counts after a membership is added. Assumes nothing.
use Rattle.std.proofs.Common.{◌≡◌, ℕ, zero, suc, ◌+◌, ◌-◌, ◌*◌, ◌<◌, Bool, true, false, cond, ◌&&◌, ◌||◌, eqb, [], ◌∷◌, length, sym, refl, ap, ◌∙◌, ap₂, true≢false, mul-zero, zero-mul, arith}
use native.Mathlib.Nat.{suc-sub-suc, sub-zero}
use Rattle.std.proofs.lemmas.Bool.{eq-eqb, ne_eqb, and_parts, and_right, eqb-true, cond-false}
use Rattle.lists.specs.Lists.{sum_below}
use Rattle.chains.specs.Chains.{Members, NoChain, add, is_pair, chains, count, past}
use Rattle.lists.proofs.Sums.{sum_same, sum_zero, sum_add, sum_times, sum_swap, sum_first, sum_one}
use Rattle.chains.proofs.Counts.{recurrence}
use Rattle.chains.proofs.Listing.{count_none}

pub count_start : (n : ℕ) (E : Members) (a s : ℕ) → count n E a s 0 ≡ cond (eqb a s) 1 0
unfolding chains count
count_start n E a s = pick (eqb a s)
  where
    pick : (t : Bool) → length (cond t ((a ∷ []) ∷ []) []) ≡ cond t 1 0
    pick true = refl
    pick false = refl

pub cond_add : (t : Bool) (x y : ℕ) → cond t (x + y) 0 ≡ cond t x 0 + cond t y 0
cond_add true x y = refl
cond_add false x y = refl

pub cond_times : (t : Bool) (x y : ℕ) → cond t (x * y) 0 ≡ cond t x 0 * y
cond_times true x y = refl
cond_times false x y = sym (zero-mul y)

pub cond_one_times : (t : Bool) (x : ℕ) → cond t x 0 ≡ cond t 1 0 * x
cond_one_times true x = omega arith
cond_one_times false x = omega arith

pub cond_sum : (t : Bool) (k : ℕ) (f : ℕ → ℕ) → cond t (sum_below k f) 0 ≡ sum_below k (λ i. cond t (f i) 0)
cond_sum true k f = refl
cond_sum false k f = sym (sum_zero k (λ i. 0) (λ i l. refl))

pub cond_apart : (x y : Bool) (v : ℕ) → (y ≡ true → x ≡ false) → cond (x || y) v 0 ≡ cond x v 0 + cond y v 0
cond_apart true true v h = absurd (true≢false (h refl))
cond_apart true false v h = omega arith
cond_apart false y v h = omega arith

module _ (n : ℕ) (E : Members) (p c : ℕ) (small : c < n) (new : E p c ≡ false) (free : NoChain E c p) where
  -- a sum over the members of a in the larger set
  over_members : (a : ℕ) (f : ℕ → ℕ) →
      sum_below n (λ m. cond (add E p c a m) (f m) 0) ≡ sum_below n (λ m. cond (E a m) (f m) 0) + cond (eqb a p) (f c) 0
  over_members a f =
      let old : ℕ → ℕ = λ m. cond (E a m) (f m) 0 in
      let fresh : ℕ → ℕ = λ m. cond (is_pair p c a m) (f m) 0 in
      let each : sum_below n (λ m. cond (add E p c a m) (f m) 0) ≡ sum_below n (λ m. old m + fresh m) =
      sum_same n (λ m. cond (add E p c a m) (f m) 0) (λ m. old m + fresh m) (λ m l. cond_apart (E a m) (is_pair p c a m) (f m) (was_not m)) in
      let sums : sum_below n (λ m. old m + fresh m) ≡ sum_below n old + sum_below n fresh = sum_add n old fresh in
      let one : sum_below n fresh ≡ fresh c = sum_one n fresh c small (λ m l d. other m d) in
      let it : fresh c ≡ cond (eqb a p) (f c) 0 = at_member (eqb a p) in
      each ∙ sums ∙ ap (λ (x : ℕ). sum_below n old + x) (one ∙ it)
    where
      was_not : (m : ℕ) → is_pair p c a m ≡ true → E a m ≡ false
      was_not m e = let both = and_parts (eqb a p) (eqb m c) e in ap₂ E (eqb-true a p both.0) (eqb-true m c both.1) ∙ new

      other : (m : ℕ) → (m ≡ c → ⊥) → cond (is_pair p c a m) (f m) 0 ≡ 0
      other m d = cond-false (is_pair p c a m) (f m) 0 (and_right (eqb a p) (eqb m c) (ne_eqb m c d))

      at_member : (t : Bool) → cond (t && eqb c c) (f c) 0 ≡ cond t (f c) 0
      at_member true = rw (eq-eqb c c refl)
      at_member false = refl

  -- no chain leads from c to p
  past_none : (s k : ℕ) → past n E p c c s k ≡ 0
  past_none s k = sum_zero k (λ i. count n E c p i * count n E c s (k - suc i)) (λ i l. rw (count_none n E c p i (free i)) (zero-mul _))

  -- one membership further up
  past_up : (a s k : ℕ) → sum_below n (λ m. cond (E a m) (past n E p c m s k) 0) ≡ sum_below k (λ i. count n E a p (suc i) * count n E c s (k - suc i))
  past_up a s k =
      let part : ℕ → ℕ → ℕ = λ m i. cond (E a m) (count n E m p i) 0 * count n E c s (k - suc i) in
      let inside = sum_same n (λ m. cond (E a m) (past n E p c m s k) 0) (λ m. sum_below k (λ i. part m i)) (λ m l. spread m) in
      let swapped = sum_swap n k part in
      let outside = sum_same k (λ i. sum_below n (λ m. part m i)) (λ i. count n E a p (suc i) * count n E c s (k - suc i)) (λ i l. gather i) in
      inside ∙ swapped ∙ outside
    where
      spread : (m : ℕ) → cond (E a m) (past n E p c m s k) 0 ≡ sum_below k (λ i. cond (E a m) (count n E m p i) 0 * count n E c s (k - suc i))
      spread m =
          cond_sum (E a m) k (λ i. count n E m p i * count n E c s (k - suc i))
          ∙ sum_same k (λ i. cond (E a m) (count n E m p i * count n E c s (k - suc i)) 0) (λ i. cond (E a m) (count n E m p i) 0 * count n E c s (k - suc i))
          (λ i l. cond_times (E a m) (count n E m p i) (count n E c s (k - suc i)))

      gather : (i : ℕ) → sum_below n (λ m. cond (E a m) (count n E m p i) 0 * count n E c s (k - suc i)) ≡ count n E a p (suc i) * count n E c s (k - suc i)
      gather i =
          sum_times n (λ m. cond (E a m) (count n E m p i) 0) (count n E c s (k - suc i))
          ∙ ap (λ (x : ℕ). x * count n E c s (k - suc i)) (sym (recurrence n E a p i))

  -- the chains past the new membership, by the length of their upper part: none, or one more
  past_first : (a s k : ℕ) → past n E p c a s (suc k) ≡ count n E a p 0 * count n E c s k + sum_below k (λ i. count n E a p (suc i) * count n E c s (k - suc i))
  past_first a s k =
      sum_first k (λ i. count n E a p i * count n E c s (suc k - suc i))
      ∙ ap₂ (λ (x y : ℕ). x + y)
      (ap (λ (x : ℕ). count n E a p 0 * count n E c s x) (suc-sub-suc k 0 ∙ sub-zero k))
      (sum_same k (λ i. count n E a p (suc i) * count n E c s (suc k - suc (suc i))) (λ i. count n E a p (suc i) * count n E c s (k - suc i))
      (λ i l. ap (λ (x : ℕ). count n E a p (suc i) * count n E c s x) (suc-sub-suc k (suc i))))

  pub count_added : (k a s : ℕ) → count n (add E p c) a s k ≡ count n E a s k + past n E p c a s k
  count_added zero a s =
      let old = count_start n E a s in
      let larger = count_start n (add E p c) a s in
      omega arith
  count_added (suc k) a s =
      let F : Members = add E p c in
      let steps : count n F a s (suc k) ≡ sum_below n (λ m. cond (F a m) (count n F m s k) 0) = recurrence n F a s k in
      let members = over_members a (λ m. count n F m s k) in
      let each : sum_below n (λ m. cond (E a m) (count n F m s k) 0) ≡ sum_below n (λ m. cond (E a m) (count n E m s k) 0 + cond (E a m) (past n E p c m s k) 0) =
      sum_same n (λ m. cond (E a m) (count n F m s k) 0) (λ m. cond (E a m) (count n E m s k) 0 + cond (E a m) (past n E p c m s k) 0)
      (λ m l. ap (λ (x : ℕ). cond (E a m) x 0) (count_added k m s) ∙ cond_add (E a m) (count n E m s k) (past n E p c m s k)) in
      let sums = sum_add n (λ m. cond (E a m) (count n E m s k) 0) (λ m. cond (E a m) (past n E p c m s k) 0) in
      let old : count n E a s (suc k) ≡ sum_below n (λ m. cond (E a m) (count n E m s k) 0) = recurrence n E a s k in
      let up = past_up a s k in
      let first = past_first a s k in
      let member : count n F c s k ≡ count n E c s k + past n E p c c s k = count_added k c s in
      let none = past_none s k in
      let same : count n F c s k ≡ count n E c s k = omega arith in
      let new-step : cond (eqb a p) (count n F c s k) 0 ≡ count n E a p 0 * count n E c s k =
      ap (λ (x : ℕ). cond (eqb a p) x 0) same ∙ cond_one_times (eqb a p) (count n E c s k) ∙ ap (λ (x : ℕ). x * count n E c s k) (sym (count_start n E a p)) in
      omega arith

  past_group_none : (a i : ℕ) → past n E p c a p i ≡ 0
  past_group_none a i =
      sum_zero i (λ x. count n E a p x * count n E c p (i - suc x)) (λ x l. rw (count_none n E c p (i - suc x) (free (i - suc x))) (mul-zero _))

  -- the counts that the sums read are the same before and after
  pub group_unchanged : (a i : ℕ) → count n (add E p c) a p i ≡ count n E a p i
  group_unchanged a i = let law = count_added i a p in let none = past_group_none a i in omega arith

  pub member_unchanged : (s j : ℕ) → count n (add E p c) c s j ≡ count n E c s j
  member_unchanged s j = let law = count_added j c s in let none = past_none s j in omega arith
