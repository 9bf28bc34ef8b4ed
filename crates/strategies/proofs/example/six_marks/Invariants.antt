use Rattle.std.proofs.Common.{take}
use Rattle.strategies.specs.Rows.{CappedCountsOf}
use Rattle.strategies.specs.Six.{six}
use Rattle.strategies.proofs.example.six_marks.Given as goal

abbrev pub invariant-loop-arrival : goal.invariant-loop-arrival
invariant-loop-arrival l = CappedCountsOf l.rows (take l.arrival-index six)
