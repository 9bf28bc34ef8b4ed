use Rattle.std.proofs.Common.{◌≡◌, subst, sym, ◌∙◌, arith}
use Rattle.plans.specs.Counts.{entry}
use Rattle.plans.specs.Above.{Passed}
use Rattle.plans.proofs.Counted.{passed_end, none_outside}
use Rattle.plans.proofs.PassUp.{passed_start}
use Rattle.plans.proofs.counting.counts_to.Goals as goal

pub loop-item-init : goal.loop-item-init
loop-item-init g c =
    passed_start (g.P.Plan.meaning c.args.plan.now) (g.met.P.Plan.lawful c.args.plan.now) c.args.o c.if-o-ge-ITEMS.false
    (entry c.begin.new.self.counts) c.begin.ensures.start (λ b k l m. c.begin.ensures.rest b k l)

pub returns-then-o-ge-ITEMS : goal.returns-then-o-ge-ITEMS
returns-then-o-ge-ITEMS g c = record {
  counted = λ b k l. c.none-chains.ensures b k l
      ∙ sym (none_outside (g.P.Plan.meaning c.args.plan.now) (g.met.P.Plan.lawful c.args.plan.now) b c.args.o k l c.if-o-ge-ITEMS.true);
}

pub returns-else-o-ge-ITEMS-2 : goal.returns-else-o-ge-ITEMS-2
returns-else-o-ge-ITEMS-2 g c =
    let M = g.P.Plan.meaning c.args.plan.now in
    let none : c.loop-item.item ≡ 0 = omega arith in
    let t = c.pass_up.new.chains in
    record {
      counted = passed_end M (g.met.P.Plan.lawful c.args.plan.now) c.args.o t.counts t.wide
          (subst (λ x. Passed M c.args.o x (entry t.counts)) none c.pass_up.ensures.passed);
    }
