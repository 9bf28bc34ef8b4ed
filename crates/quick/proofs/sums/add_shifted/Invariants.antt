use Rattle.std.proofs.Common.{◌≡◌, ℕ, ◌+◌, ◌<◌, length, get_or}
use Rattle.quick.specs.Sums.{at_of, reached}
use Rattle.quick.proofs.sums.add_shifted.Given as goal

abbrev pub invariant-loop-j : goal.invariant-loop-j
invariant-loop-j l =
    (length l.row ≡ 15)
    × ((d : ℕ) → d < 15 → get_or l.row d 0 ≡ get_or l.initial.row d 0 + reached l.j l.up l.times (at_of l.lengths) d)
