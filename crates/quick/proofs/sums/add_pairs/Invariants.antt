use Rattle.std.proofs.Common.{◌≡◌, ℕ, ◌+◌, ◌<◌, length, get_or}
use Rattle.lists.specs.Lists.{sum_below}
use Rattle.quick.specs.Sums.{at_of, shifted}
use Rattle.quick.proofs.sums.add_pairs.Given as goal

abbrev pub invariant-loop-i : goal.invariant-loop-i
invariant-loop-i l =
    (length l.row ≡ 15)
    × ((d : ℕ) → d < 15 → get_or l.row d 0 ≡ get_or l.initial.row d 0 + sum_below l.i (λ i. shifted i (at_of l.ups i) (at_of l.lengths) d))
