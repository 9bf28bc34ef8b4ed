-- A table that has the counts of a set of memberships shows that set. Assumes nothing.
use Rattle.std.proofs.Common.{◌≡◌, ℕ, ◌<◌, ◌≤◌, Bool, true, false, cond, ◌&&◌, ltb, ◌⊎◌, List, sym, ◌∙◌, inl, inr, arith}
use Rattle.std.proofs.lemmas.Bool.{and_parts, cases_Bool, cases_lt, le-ltb, lt-ltb, ltb-true}
use Rattle.chains.specs.Chains.{Members, Within, count}
use Rattle.chains.specs.Table.{entry, shown_members}
use Rattle.chains.proofs.Sets.{same_equal}
use Rattle.chains.proofs.Table.{count_one}

pub shown_within : (n : ℕ) (t : List ℕ) → Within n (shown_members n t)
unfolding shown_members
shown_within n t g m e =
    let first = and_parts (ltb g n) (ltb m n && ltb 0 (entry t n g m 1)) e in
    let second = and_parts (ltb m n) (ltb 0 (entry t n g m 1)) first.1 in
    (ltb-true g n first.0, ltb-true m n second.0)

-- among known accounts, the count at length 1 is all that is read
pub shown_known : (n : ℕ) (t : List ℕ) (g m : ℕ) → g < n → m < n → shown_members n t g m ≡ ltb 0 (entry t n g m 1)
unfolding shown_members
shown_known n t g m hg hm = rw (lt-ltb g n hg, lt-ltb m n hm)

-- outside, there are none in a set within n
none_outside : (n : ℕ) (F : Members) → Within n F → (g m : ℕ) → (n ≤ g) ⊎ (n ≤ m) → F g m ≡ false
none_outside n F w g m out = pick (cases_Bool (F g m)) out
  where
    pick : (F g m ≡ true) ⊎ (F g m ≡ false) → (n ≤ g) ⊎ (n ≤ m) → F g m ≡ false
    pick (inr e) o = e
    pick (inl e) (inl l) = let k = (w g m e).0 in absurd (omega arith)
    pick (inl e) (inr l) = let k = (w g m e).1 in absurd (omega arith)

one_or_none : (b : Bool) (x : ℕ) → x ≡ cond b 1 0 → ltb 0 x ≡ b
one_or_none true x e = lt-ltb 0 x (omega arith)
one_or_none false x e = le-ltb 0 x (omega arith)

-- the memberships that a table shows are those whose counts it has
pub shown_is : (n : ℕ) (F : Members) (t : List ℕ) → Within n F →
    ((a s k : ℕ) → a < n → s < n → k < 8 → entry t n a s k ≡ count n F a s k) → shown_members n t ≡ F
shown_is n F t w h = same_equal (λ g m. pick g m (cases_lt g n) (cases_lt m n))
  where
    pick : (g m : ℕ) → (g < n) ⊎ (n ≤ g) → (m < n) ⊎ (n ≤ m) → shown_members n t g m ≡ F g m
    pick g m (inl hg) (inl hm) =
        shown_known n t g m hg hm
        ∙ one_or_none (F g m) (entry t n g m 1) (h g m 1 hg hm (omega arith) ∙ count_one n F g m hm)
    pick g m (inr hg) b = none_outside n (shown_members n t) (shown_within n t) g m (inl hg) ∙ sym (none_outside n F w g m (inl hg))
    pick g m (inl hg) (inr hm) = none_outside n (shown_members n t) (shown_within n t) g m (inr hm) ∙ sym (none_outside n F w g m (inr hm))
