use Rattle.std.proofs.Common.{rules}
use Rattle.output.proofs.Behind.{written}
use Rattle.output.proofs.Columns.{justified}
use Rattle.output.proofs.pushing.push_line.Goals as goal

pub returns : goal.returns
returns c = let grown = written c.writeln.result _ _ _ c.writeln.ensures.writes in search (rules, justified)
