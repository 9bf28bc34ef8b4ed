use Rattle.std.proofs.Common.{◌≡◌, ℕ, ◌<◌, ◌≤◌, cond, ltb, get_or}
use Rattle.chains.specs.Table.{entry, size}
use Rattle.counts.specs.Rows.{alone}
use Rattle.counts.proofs.making.clear.Given as goal

-- the rows of the accounts below a are done
abbrev pub invariant-loop-a : goal.invariant-loop-a
invariant-loop-a l =
    ((b s k : ℕ) → b < l.n → s < l.n → k < 8 → entry l.counts l.n b s k ≡ cond (ltb b l.a) (alone b s k) 0)
    × ((q : ℕ) → size l.n ≤ q → get_or l.counts q 0 ≡ get_or l.initial.counts q 0)
