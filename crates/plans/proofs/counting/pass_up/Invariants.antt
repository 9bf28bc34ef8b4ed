use Rattle.std.proofs.Common.{drop}
use Rattle.plans.specs.Items.{present}
use Rattle.plans.specs.Counts.{entry}
use Rattle.plans.specs.Above.{Passing}
use Rattle.plans.proofs.counting.pass_up.Given as goal

abbrev pub invariant-loop-container : goal.invariant-loop-container
invariant-loop-container g l =
    Passing (g.P.Plan.meaning l.plan) l.o l.item (present (drop l.container-index l.container-items)) (entry l.chains.counts)
