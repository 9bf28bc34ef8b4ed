use Rattle.std.proofs.Common.{◌≡◌, ℕ, ◌+◌, ◌<◌, length, get_or, take}
use Rattle.quick.proofs.defaults.add_row.Given as goal

-- the lengths so far are added
abbrev pub invariant-loop-k : goal.invariant-loop-k
invariant-loop-k l = (length l.row ≡ 15) × ((d : ℕ) → d < 15 → get_or l.row d 0 ≡ get_or l.initial.row d 0 + get_or (take l.k l.ups) d 0)
