use Rattle.std.proofs.Common.{take}
use Rattle.walked.specs.Starts.{lengths_in}
use Rattle.walked.specs.Distances.{NearestStarts}
use Rattle.walked.proofs.distances.nearest_starts.Given as goal

abbrev pub invariant-loop-grant : goal.invariant-loop-grant
invariant-loop-grant l = NearestStarts (take l.grant-index l.grants) (lengths_in l.above.counts) l.right l.sign l.starts
