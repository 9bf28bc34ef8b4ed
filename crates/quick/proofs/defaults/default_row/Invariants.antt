use Rattle.std.proofs.Common.{◌≡◌, ℕ, ◌<◌, length, get_or}
use Rattle.table.specs.Tables.{members_in}
use Rattle.quick.specs.Sums.{defaults_below}
use Rattle.quick.proofs.defaults.default_row.Given as goal

-- the accounts so far have given their marks
abbrev pub invariant-loop-a : goal.invariant-loop-a
invariant-loop-a l =
    (length l.row ≡ 15)
    × ((d : ℕ) → d < 15 → get_or l.row d 0 ≡ defaults_below l.a l.table.accounts (members_in l.table) l.held l.s d)
