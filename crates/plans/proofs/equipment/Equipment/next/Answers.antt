use Rattle.std.proofs.Common.{sym}
use Rattle.plans.proofs.Filled.{next_is}
use Rattle.plans.proofs.equipment.Equipment.next.Goals as goal

pub returns-clause-answer : goal.returns-clause-answer
returns-clause-answer c = let e = c.args.self.now in sym (next_is e.places e.filled e.within)
