use Rattle.std.proofs.Common.{take}
use Rattle.walked.specs.Starts.{lengths_in}
use Rattle.walked.specs.Taking.{FromGrants}
use Rattle.walked.proofs.starting.grants_start.Given as goal

abbrev pub invariant-loop-grant : goal.invariant-loop-grant
invariant-loop-grant l = FromGrants (take l.grant-index l.grants) (lengths_in l.above.counts) l.right l.starts
