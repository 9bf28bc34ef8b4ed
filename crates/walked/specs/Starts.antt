-- What each account has before the walk: the arrivals that its own grants give. Assumes nothing.
use Rattle.std.specs.Prelude.{ℕ, ◌<◌, cond, ◌&&◌, List, sum_by, ◌==◌, slice_index}
use Rattle.std.specs.List.{AllByRecursion}
use Rattle.plans.specs.Counts.{row_read}
use Rattle.strategies.specs.Resolve.{same_sign}
use Rattle.strategies.specs.declared.marks.Sign.{Sign}
use Rattle.model.specs.Counted.{Lengths}
use Rattle.model.specs.declared.grant.Grant.{Grant}

-- how many item chains lead down from each item, as they are read off counts
abbrev pub lengths_in : List (List ℕ) → Lengths
lengths_in t b k = slice_index (row_read t b) k

-- how many arrivals of the sign at distance d a grant gives to account a itself: one for each chain of that length from its
-- item, if it is a grant to a, of the right and of the sign
abbrev pub given_by : Lengths → ℕ → ℕ → Sign → ℕ → Grant → ℕ
given_by L r a sign d g = cond (g.account == a && (g.right == r && same_sign sign g.sign)) (L g.item d) 0

-- how many all grants give to account a
unfoldable pub started : List Grant → Lengths → ℕ → ℕ → Sign → ℕ → ℕ
started grants L r a sign d = sum_by (given_by L r a sign d) grants

-- the grants are to accounts below 64
abbrev pub InRange : List Grant → Type 0
InRange grants = AllByRecursion (λ g. g.account < 64) grants
