-- What the counts of a sound table say of the memberships that it shows. Assumes nothing.
use Rattle.std.proofs.Common.{◌≡◌, ℕ, zero, suc, ◌+◌, ◌-◌, ◌*◌, ◌<◌, ◌≤◌, Bool, true, false, cond, ◌&&◌, eqb, List, length, take, drop, sym, refl, ap, ◌∙◌, ap₂, arith}
use Rattle.std.proofs.lemmas.List.{get_or_default, length-drop, length-take-le, same_lists}
use Rattle.std.proofs.lemmas.Bool.{and_right, cond-false, ne_eqb}
use Rattle.lists.proofs.Sums.{sum_same}
use Rattle.chains.specs.Chains.{Members, Within, Short, NoChain, no_members, count, past}
use Rattle.chains.specs.Tests.{leads, too_long, too_many}
use Rattle.chains.proofs.Added.{count_start}
use Rattle.chains.specs.Table.{entry, row_of, shown_members, size, table_of}
use Rattle.chains.proofs.Laid.{laid, laid_at, row_at, row_long}
use Rattle.chains.proofs.Places.{row_below}
use Rattle.chains.proofs.Limits.{passes_short}
use Rattle.chains.proofs.Listing.{count_none}
use Rattle.chains.proofs.Shows.{shown_is, shown_within}
use Rattle.chains.proofs.Table.{count_no_members, count_self, none_counted}
use Rattle.chains.proofs.Told.{leads_none, many_none}
use Rattle.counts.proofs.Rows.{get_or_row}
use Rattle.counts.specs.Rows.{LowTable, alone, row, through}
use Rattle.table.specs.Tables.{SoundTable, count_in, members_in}
use Rattle.table.specs.declared.tables.Table.{Table}

-- every table is sound
pub sound_table : (t : Table) → SoundTable t
sound_table t = record { fits = (t.holds.few, t.holds.fits); counts = t.laid; short = t.short; few = t.few }

-- a list with the counts of a set of memberships shows the set, and begins with the counts of what it shows
module _ (n : ℕ) (t : List ℕ) (F : Members) (w : Within n F)
    (h : (a s k : ℕ) → a < n → s < n → k < 8 → entry t n a s k ≡ count n F a s k) where
  pub laid_with : size n ≤ length t → take (size n) t ≡ table_of n (shown_members n t)
  laid_with fits = laid n F t fits h ∙ ap (table_of n) (sym (shown_is n F t w h))

  pub short_with : too_long n F ≡ false → too_long n (shown_members n t) ≡ false
  short_with e = ap (too_long n) (shown_is n F t w h) ∙ e

  pub few_with : too_many n F ≡ false → too_many n (shown_members n t) ≡ false
  few_with e = ap (too_many n) (shown_is n F t w h) ∙ e

-- without memberships
pub alone_counts : (n a s k : ℕ) → alone a s k ≡ count n no_members a s k
alone_counts n a s zero = pick (eqb a s) ∙ sym (count_start n no_members a s)
  where
    pick : (b : Bool) → ◌≡◌ {A = ℕ} (cond (b && true) 1 0) (cond b 1 0)
    pick true = refl
    pick false = refl
alone_counts n a s (suc k) = cond-false (eqb a s && eqb (suc k) 0) 1 0 (and_right (eqb a s) (eqb (suc k) 0) (ne_eqb (suc k) 0 (λ e. omega arith))) ∙ sym (count_no_members n a s k)

module _ (t : Table) where
  pub at : (a s k : ℕ) → a < t.accounts → s < t.accounts → k < 8 → count_in t a s k ≡ count t.accounts (members_in t) a s k
  at = laid_at t.accounts (members_in t) t.counts.now t.laid

  pub within : Within t.accounts (members_in t)
  within = shown_within t.accounts t.counts.now

  pub is_short : Short (members_in t)
  is_short = passes_short t.accounts (members_in t) within t.short

  pub is_low : LowTable t.accounts t.counts.now
  is_low a s k ha hs hk =
      let here = at a s k ha hs hk in
      let low = many_none t.accounts (members_in t) t.few a s k ha hs hk in
      omega arith

  pub own : (a : ℕ) → a < t.accounts → count_in t a a 0 ≡ 1
  own a ha = at a a 0 ha ha (omega arith) ∙ count_self t.accounts (members_in t) a

  pub free_chain : (c p : ℕ) → leads t.accounts (members_in t) c p ≡ false → NoChain (members_in t) c p
  free_chain c p e = none_counted t.accounts (members_in t) within is_short c p (leads_none t.accounts (members_in t) c p e)

  pub free_counts : (c p : ℕ) → c < t.accounts → p < t.accounts → NoChain (members_in t) c p → (k : ℕ) → k < 8 → count_in t c p k ≡ 0
  free_counts c p hc hp none k hk = at c p k hc hp hk ∙ count_none t.accounts (members_in t) c p k (none k)

  -- the sum that the code adds is the number of chains past the membership
  pub through_past : (p c a s k : ℕ) → p < t.accounts → c < t.accounts → a < t.accounts → s < t.accounts → k < 8 →
      through (count_in t a p) (count_in t c s) k ≡ past t.accounts (members_in t) p c a s k
  unfolding through
  through_past p c a s k hp hc ha hs hk =
      sum_same k (λ i. count_in t a p i * count_in t c s (k - 1 - i)) (λ i. count t.accounts (members_in t) a p i * count t.accounts (members_in t) c s (k - suc i))
      (λ i l.
      let same : k - 1 - i ≡ k - suc i = omega arith in
      ap₂ (λ (x y : ℕ). x * y) (at a p i ha hp (omega arith))
      (ap (λ (j : ℕ). count_in t c s j) same ∙ at c s (k - suc i) hc hs (omega arith)))

  -- eight counts in a row are those from a to s
  pub row_shown : (a s : ℕ) → a < t.accounts → s < t.accounts → row t.counts.now t.accounts a s ≡ row_of t.accounts (members_in t) a s
  row_shown a s ha hs =
      let n = t.accounts in let xs = t.counts.now in let E = members_in t in
      let inside = row_below n a s ha hs in
      let fits = t.holds.fits in
      let behind = length-drop ((a * n + s) * 8) xs in
      let long : length (row xs n a s) ≡ 8 = length-take-le 8 (drop ((a * n + s) * 8) xs) (omega arith) in
      let eight = row_long n E a s in
      same_lists (row xs n a s) (row_of n E a s) (long ∙ sym eight)
      (λ k d l.
      let h : k < 8 = omega arith in
      get_or_default (row xs n a s) k d 0 l
      ∙ get_or_row xs n a s k h ∙ at a s k ha hs h ∙ sym (row_at n E a s k h)
      ∙ get_or_default (row_of n E a s) k 0 d (omega arith))
