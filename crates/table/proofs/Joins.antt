-- What the counts of a sound table say of a new membership. Assumes nothing.
use Rattle.std.proofs.Common.{◌≡◌, ℕ, ◌+◌, ◌<◌, ◌≤◌, Bool, true, false, sym, ◌∙◌, ap₂, arith}
use Rattle.chains.specs.Chains.{Members, Within, Short, NoChain, add, count}
use Rattle.chains.specs.Tests.{leads, too_long, too_many}
use Rattle.chains.proofs.Added.{count_added}
use Rattle.chains.proofs.Limits.{long_seen, short_passes}
use Rattle.chains.proofs.Long.{long_made, short_kept}
use Rattle.chains.proofs.Sets.{add_within}
use Rattle.chains.proofs.Some.{same_test}
use Rattle.chains.proofs.Told.{many_no, many_yes}
use Rattle.counts.specs.Rows.{Passing, TooFar, count_after}
use Rattle.table.specs.Tables.{count_in, members_in}
use Rattle.table.specs.declared.tables.Table.{Table}
use Rattle.table.proofs.Sound.{at, free_chain, is_short, through_past, within}

module _ (t : Table) (p c : ℕ) (hp : p < t.accounts) (hc : c < t.accounts) (free : leads t.accounts (members_in t) c p ≡ false) where
  pub long_test : (r : Bool) → (r ≡ true → TooFar t.counts.now t.accounts p c) →
      (r ≡ false → (a s i j : ℕ) → a < t.accounts → s < t.accounts → i < 8 → j < 8 → 0 < count_in t a p i → 0 < count_in t c s j → i + 1 + j ≤ 7) →
      r ≡ too_long t.accounts (add (members_in t) p c)
  long_test r when_true when_false = same_test r (too_long n F) (λ e. made (when_true e)) (λ e. short_passes n F wf (fine (when_false e)))
    where
      n : ℕ
      n = t.accounts

      E : Members
      E = members_in t

      F : Members
      F = add E p c

      none : NoChain E c p
      none = free_chain t c p free

      wf : Within n F
      wf = add_within n E p c hp hc (within t)

      made : TooFar t.counts.now n p c → too_long n F ≡ true
      made w =
          let up = at t w.top p w.above w.top_in hp w.above_in in
          let down = at t c w.end w.below hc w.end_in w.below_in in
          let long = long_made n E (within t) (is_short t) p c hp hc none
          (w.top, w.end, w.above, w.below, w.top_in, w.end_in, w.above_in, w.below_in, omega arith, omega arith, omega arith) in
          long_seen n F wf long.0 long.1 long.2 long.3 long.4

      fine : ((a s i j : ℕ) → a < n → s < n → i < 8 → j < 8 → 0 < count_in t a p i → 0 < count_in t c s j → i + 1 + j ≤ 7) → Short F
      fine h = short_kept n E (within t) (is_short t) p c hp hc none
          (λ (a, s, i, j, ha, hs, hi, hj, over, up, down).
          let u = at t a p i ha hp hi in
          let d = at t c s j hc hs hj in
          let low = h a s i j ha hs hi hj (omega arith) (omega arith) in
          omega arith)

  module _ (new : members_in t p c ≡ false) where
    pub count_then : (a s k : ℕ) → a < t.accounts → s < t.accounts → k < 8 →
        count_after t.counts.now t.accounts p c a s k ≡ count t.accounts (add (members_in t) p c) a s k
    count_then a s k ha hs hk =
        ap₂ (λ (x y : ℕ). x + y) (at t a s k ha hs hk) (through_past t p c a s k hp hc ha hs hk)
        ∙ sym (count_added t.accounts (members_in t) p c hc new (free_chain t c p free) k a s)

    pub many_test : (r : Bool) → (r ≡ true → Passing t.counts.now t.accounts p c) →
        (r ≡ false → (a : ℕ) → a < t.accounts → (s : ℕ) → s < t.accounts → (k : ℕ) → k < 8 → count_after t.counts.now t.accounts p c a s k ≤ 99999) →
        r ≡ too_many t.accounts (add (members_in t) p c)
    many_test r when_true when_false =
        same_test r (too_many t.accounts (add (members_in t) p c))
        (λ e.
        let w = when_true e in
        let same = count_then w.top w.end w.long w.top_in w.end_in w.long_in in
        let over = w.over in
        many_yes t.accounts (add (members_in t) p c) w.top w.end w.long w.top_in w.end_in w.long_in (omega arith))
        (λ e. many_no t.accounts (add (members_in t) p c) (λ a s k ha hs hk.
        let same = count_then a s k ha hs hk in
        let low = when_false e a ha s hs k hk in
        omega arith))
