use Rattle.std.proofs.Common.{◌≡◌, ◌++◌, length, vec_items}
use Rattle.reader.specs.Lists.{unread}
use Rattle.reader.specs.Sessions.{lines_output}
use Rattle.reader.specs.Standing.{standing}
use Rattle.reader.proofs.running.run_lines.Given as goal

-- what is written and what is still to come make the whole output
abbrev pub invariant-loop-outcome : goal.invariant-loop-outcome
invariant-loop-outcome l =
    vec_items l.out ++ lines_output l.reader.line (standing l.session) (unread l.reader)
    ≡ vec_items l.initial.out ++ lines_output l.initial.reader.line (standing l.initial.session) (unread l.initial.reader)

abbrev pub decreases-loop-outcome : goal.decreases-loop-outcome
decreases-loop-outcome l = length (unread l.reader)
