use Rattle.std.proofs.Common.{arith}
use Rattle.strategies.specs.declared.marks.Sign.TheVariants.{Plus, Minus}
use Rattle.model.proofs.FromRows.{answers, tally_few}
use Rattle.model.proofs.answering.answer_from.Goals as goal

pub returns : goal.returns
returns c = record {
  answer = λ l of. answers c.args.rows.now c.args.strategy _ _ _ l of (c.resolve-resolved.ensures.sign l of) (c.resolve-resolved.ensures.plus l of) (c.resolve-resolved.ensures.minus l of);
  few = λ l of.
      let p = c.resolve-resolved.ensures.plus l of in
      let m = c.resolve-resolved.ensures.minus l of in
      (omega (arith, tally_few Plus c.args.strategy.default l), omega (arith, tally_few Minus c.args.strategy.default l));
}
