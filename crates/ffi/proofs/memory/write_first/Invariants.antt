use Rattle.std.proofs.Common.{◌≡◌, take, drop}
use Rattle.std.specs.List.{AllZip}
use Rattle.ffi.proofs.memory.write_first.Given as goal

-- the places so far have what the elements give, the others are as they were
abbrev pub invariant-loop-i : goal.invariant-loop-i
invariant-loop-i g l = (AllZip g.R.From.from_gives (take l.i l.from) (take l.i l.to)) × (drop l.i l.to ≡ drop l.i l.initial.to)
