use Rattle.std.proofs.Common.{arith}
use Rattle.plans.proofs.Entries.{none_counted, none_wide}
use Rattle.plans.proofs.counts.ItemCounts.none.Goals as goal

pub invariant_of-result : goal.invariant_of-result
invariant_of-result c = record { wide = none_wide; few = λ b k l. let n = none_counted b k l in omega arith }

pub returns : goal.returns
returns c = none_counted
