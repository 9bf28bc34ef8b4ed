-- Counts of arrivals at each distance, and the arrivals that they count. Assumes nothing.
use Rattle.std.specs.Prelude.{◌≡◌, ℕ, ◌+◌, min, Bool, true, false, cond, ◌&&◌, List, length, ◌==◌, slice_index, slice_set}
use Rattle.lists.specs.Lists.{keep}
use Rattle.strategies.specs.Resolve.{same_sign}
use Rattle.strategies.specs.declared.marks.Sign.{Sign}
use Rattle.strategies.specs.declared.marks.Sign.TheVariants.{Plus, Minus}
use Rattle.strategies.specs.declared.marks.Mark.{Mark}
use Rattle.strategies.specs.declared.marks.Mark.TheVariants.{Signed, Default}
use Rattle.strategies.specs.declared.marks.Arrival.{Arrival}
use Rattle.strategies.specs.declared.rows.Rows.{Rows}
use Rattle.strategies.specs.declared.strategy.DefaultRule.{DefaultRule}
use Rattle.strategies.specs.declared.strategy.DefaultRule.TheVariants.{Dropped, Counts}

abbrev pub same_mark : Mark → Mark → Bool
same_mark (Signed s) (Signed t) = same_sign s t
same_mark (Signed s) Default = false
same_mark Default (Signed t) = false
same_mark Default Default = true

-- how many of the arrivals are of the mark and came over the distance
unfoldable pub counted : Mark → List Arrival → ℕ → ℕ
counted m rows d = length (keep (λ r. same_mark m r.mark && r.distance == d) rows)

-- what the rows say of the mark at the distance: 0 past distance 14
abbrev pub row_at : Rows → Mark → ℕ → ℕ
row_at rows (Signed Plus) d = slice_index rows.plus.counts d
row_at rows (Signed Minus) d = slice_index rows.minus.counts d
row_at rows Default d = slice_index rows.default.counts d

-- the rows count these arrivals: at every distance, of every mark, as many as the rows say; so none came from past distance 14
abbrev pub CountsOf : Rows → List Arrival → Type 0
CountsOf rows l = (m : Mark) (d : ℕ) → counted m l d ≡ row_at rows m d

-- the rows count these arrivals, each count stopping at 1,000,000,000,000
abbrev pub CappedCountsOf : Rows → List Arrival → Type 0
CappedCountsOf rows l = (m : Mark) (d : ℕ) → row_at rows m d ≡ min (counted m l d) 1000000000000

-- what default marks add to a sign
abbrev pub share : DefaultRule → Sign → ℕ → ℕ
share Dropped s n = 0
share (Counts t) s n = cond (same_sign s t) n 0

-- how many votes of the sign are left at the distance
abbrev pub votes_at : DefaultRule → Sign → Rows → ℕ → ℕ
votes_at rule s rows d = row_at rows (Signed s) d + share rule s (row_at rows Default d)

-- how many votes of either sign are left at the distance
abbrev pub any_at : DefaultRule → Rows → ℕ → ℕ
any_at rule rows d = votes_at rule Plus rows d + votes_at rule Minus rows d

-- one more mark at the distance; a count that is full stays
abbrev pub one_more : List ℕ → ℕ → List ℕ
one_more counts d = slice_set counts d (min (slice_index counts d + 1) 1000000000000)

-- the counts of a mark once one more arrived
abbrev pub grown : Mark → Arrival → List ℕ → List ℕ
grown m a counts = cond (same_mark m a.mark) (one_more counts a.distance) counts

-- every row once one more arrived
pub record Grown (before after : Rows) (a : Arrival) : Type 0 where
  pub plus : after.plus.counts ≡ grown (Signed Plus) a before.plus.counts
  pub minus : after.minus.counts ≡ grown (Signed Minus) a before.minus.counts
  pub default : after.default.counts ≡ grown Default a before.default.counts
