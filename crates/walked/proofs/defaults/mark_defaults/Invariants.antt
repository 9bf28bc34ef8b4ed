use Rattle.table.specs.Tables.{members_in}
use Rattle.walked.specs.Defaults.{Marking}
use Rattle.walked.proofs.defaults.mark_defaults.Given as goal

abbrev pub invariant-loop-a : goal.invariant-loop-a
invariant-loop-a l = Marking l.table.accounts (members_in l.table) l.initial.starts l.a l.starts
