use Rattle.std.proofs.Common.{◌≡◌, ℕ, ◌+◌, ◌<◌, ◌≤◌, get_or}
use Rattle.counts.specs.Changes.{changed}
use Rattle.counts.specs.Rows.{at_of, through}
use Rattle.counts.proofs.changing.change_row.Given as goal

-- the lengths below k are done, and no other place has changed
abbrev pub invariant-loop-k : goal.invariant-loop-k
invariant-loop-k g l =
    ((j : ℕ) → j < l.k → get_or l.counts (l.at + j) 0 ≡ changed g.C.Change.way (get_or l.initial.counts (l.at + j) 0) (through (at_of l.up) (at_of l.down) j))
    × ((q : ℕ) → q < l.at → get_or l.counts q 0 ≡ get_or l.initial.counts q 0)
    × ((q : ℕ) → l.at + l.k ≤ q → get_or l.counts q 0 ≡ get_or l.initial.counts q 0)
