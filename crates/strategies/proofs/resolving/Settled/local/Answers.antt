use Rattle.strategies.specs.declared.marks.Sign.TheVariants.{Plus, Minus}
use Rattle.strategies.proofs.Counts.{near, far}
use Rattle.strategies.proofs.resolving.Settled.local.Goals as goal

pub returns-in-Nearest-clause-plus : goal.returns-in-Nearest-clause-plus
returns-in-Nearest-clause-plus c = λ l of. let read = near c.args.self.now.rows.now c.args.self.now.rule l of c.nearest.result _ Plus c.nearest.ensures c.only_at.ensures.plus in cc

pub returns-in-Nearest-clause-minus : goal.returns-in-Nearest-clause-minus
returns-in-Nearest-clause-minus c = λ l of. let read = near c.args.self.now.rows.now c.args.self.now.rule l of c.nearest.result _ Minus c.nearest.ensures c.only_at.ensures.minus in cc

pub returns-in-Farthest-clause-plus : goal.returns-in-Farthest-clause-plus
returns-in-Farthest-clause-plus c = λ l of. let read = far c.args.self.now.rows.now c.args.self.now.rule l of c.farthest.result _ Plus c.farthest.ensures c.only_at-in-Farthest.ensures.plus in cc

pub returns-in-Farthest-clause-minus : goal.returns-in-Farthest-clause-minus
returns-in-Farthest-clause-minus c = λ l of. let read = far c.args.self.now.rows.now c.args.self.now.rule l of c.farthest.result _ Minus c.farthest.ensures c.only_at-in-Farthest.ensures.minus in cc
