use Rattle.std.proofs.Common.{◌+◌}
use Rattle.plans.specs.Counts.{entry}
use Rattle.plans.specs.Above.{Passed}
use Rattle.plans.proofs.counting.counts_to.Given as goal

abbrev pub invariant-loop-item : goal.invariant-loop-item
invariant-loop-item g l = Passed (g.P.Plan.meaning l.plan) l.o (l.item + 1) (entry l.chains.counts)
