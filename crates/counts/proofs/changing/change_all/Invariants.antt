use Rattle.counts.proofs.Lines.{Upto}
use Rattle.counts.proofs.changing.change_all.Given as goal

abbrev pub invariant-loop-a : goal.invariant-loop-a
invariant-loop-a g l = Upto g.C.Change.way l.initial.counts l.counts l.n l.p l.c l.a
