-- Rows of counts as weights: one row, and one for each mark. Assumes nothing.
use Rattle.std.specs.Prelude.{ℕ, zero, suc, ◌+◌, min, map, slice_index, refl}
use Rattle.std.proofs.Common.{arith}
use Rattle.std.specs.List.{range_with_len}
use Rattle.std.proofs.lemmas.List.FromFn.{get_or-map-range_with_len}
use Rattle.strategies.specs.declared.rows.Row.{Row}
use Rattle.strategies.specs.declared.rows.Rows.{Rows}

-- the count at a distance: none past 14
abbrev pub count_at : Row → ℕ → ℕ
count_at x d = slice_index x.counts d

-- a count that stops at a million million
abbrev pub limited : ℕ → ℕ
limited n = min n 1000000000000

-- the row that has f d, limited, at each distance d
unfoldable pub row_of : (ℕ → ℕ) → Row
row_of f = record {
  counts = map (λ d. limited (f d)) (range_with_len 0 15);
  long = refl;
  small = λ d h. omega (arith, get_or-map-range_with_len (λ e. limited (f e)) 0 15 d d 0 h (omega arith));
}

-- no arrival at any distance
abbrev pub no_counts : Row
no_counts = row_of (λ d. 0)

-- the arrivals of both, distance by distance
abbrev pub added : Row → Row → Row
added x y = row_of (λ d. count_at x d + count_at y d)

-- the count one distance before: none before distance 0
abbrev pub before : Row → ℕ → ℕ
before x zero = 0
before x (suc d) = count_at x d

-- every arrival one distance later; those at distance 14 fall off
abbrev pub later : Row → Row
later x = row_of (before x)

-- a row for each mark
abbrev pub three : Row → Row → Row → Rows
three p m d = record { plus = p; minus = m; default = d }

-- nothing of any mark
abbrev pub no_rows : Rows
no_rows = three no_counts no_counts no_counts

-- each mark's arrivals of both
abbrev pub added_rows : Rows → Rows → Rows
added_rows x y = three (added x.plus y.plus) (added x.minus y.minus) (added x.default y.default)

-- each mark's arrivals one distance later
abbrev pub later_rows : Rows → Rows
later_rows x = three (later x.plus) (later x.minus) (later x.default)
