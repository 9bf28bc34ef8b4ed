use Rattle.std.proofs.Common.{◌∙◌}
use Rattle.strategies.specs.declared.marks.Sign.TheVariants.{Plus, Minus}
use Rattle.strategies.proofs.Counts.{same_total}
use Rattle.strategies.proofs.resolving.Settled.everywhere.Goals as goal

pub returns : goal.returns
returns c = record {
  plus = λ l of. c.total.ensures ∙ same_total c.args.self.now.rows.now c.args.self.now.rule l of Plus;
  minus = λ l of. c.total-2.ensures ∙ same_total c.args.self.now.rows.now c.args.self.now.rule l of Minus;
}
