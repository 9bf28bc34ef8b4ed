use Rattle.std.proofs.Common.{rules}
use Rattle.output.proofs.Behind.{written}
use Rattle.output.proofs.Columns.{justified}
use Rattle.output.proofs.pushing.push_number.Goals as goal

pub returns : goal.returns
returns c = let grown = written c.write.result _ _ _ c.write.ensures.writes in search (rules, justified)
