use Rattle.std.proofs.Common.{◌≡◌, ◌<◌, [], length, Ok, ap, ◌∙◌, inl, arith, rules, lit≤}
use Rattle.strategies.proofs.OneMore.{counts_capped}
use Rattle.texts.specs.Lines.{lines_of}
use Rattle.texts.proofs.Counts.{lines_at_most}
use Rattle.marklist.specs.Lines.{arrival_in}
use Rattle.marklist.proofs.TextLines.{begins, goes_on}
use Rattle.marklist.proofs.counting.count_marks.Goals as goal

pub loop-before-init : goal.loop-before-init
loop-before-init c =
    let lines = c.into_iter-before-iterator.result in
    let same = c.into_iter-before-iterator.ensures.into_iter_gives in
    let whole : lines.iter.rest.now ≡ c.args.text.now = ap (λ e. e.iter.rest.now) same ∙ ap (λ i. i.rest.now) c.enumerate-before-items.ensures.source ∙ c.of.ensures.whole in
    let none : lines.count ≡ 0 = ap (λ e. e.count) same ∙ c.enumerate-before-items.ensures.count in (
      (tt, tt, inl (omega (arith, none, lines_at_most lines.iter.rest.now, ap length whole))),
      tt,
      begins c.args.text.now (lines_of lines.iter.rest.now) lines.count c.none-rows.result (ap lines_of whole) none
          (counts_capped c.none-rows.result [] (lit≤ tt) c.none-rows.ensures),
    )

pub loop-before-preserved : goal.loop-before-preserved
loop-before-preserved c =
    let step = c.in-Some.ensures.steps in
    let value : Ok c.in_ok-arrival.arrival ≡ arrival_in c.in-Some.line.now = search rules in
    let within : c.in_ok-arrival.arrival.distance < 15 = search rules in (
      c.in-Some.ensures.goes.keeps,
      tt,
      goes_on c.args.text.now c.in-Some.line.now _ _ _ _ c.loop-before.rows c.add.new.self c.in_ok-arrival.arrival c.loop-before.invariant.2 step.0 step.2 value
          (λ l of. c.add.ensures.counts l of within),
    )
