use Rattle.counts.proofs.Along.{Along}
use Rattle.counts.proofs.changing.change_line.Given as goal

abbrev pub invariant-loop-s : goal.invariant-loop-s
invariant-loop-s g l = Along g.C.Change.way l.initial.counts l.counts l.up l.n l.a l.c l.s
