use Rattle.std.proofs.Common.{◌≡◌, take, drop}
use Rattle.ffi.proofs.memory.copy_first.Given as goal

-- the places so far are copied, the others as they were
abbrev pub invariant-loop-i : goal.invariant-loop-i
invariant-loop-i g l = (take l.i l.to ≡ take l.i l.from) × (drop l.i l.to ≡ drop l.i l.initial.to)
