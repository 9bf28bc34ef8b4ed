use Rattle.std.proofs.Common.{◌≡◌, suc, [], drop, sym, ap, ◌∙◌, subst, add-one, rules, ltb, false, replicate}
use Rattle.std.proofs.lemmas.List.{drop_all}
use Rattle.std.proofs.lemmas.Bool.{lt-ltb, cond-true}
use Rattle.lists.specs.Lists.{some}
use Rattle.plans.specs.declared.counts.ItemCounts.{ItemCounts}
use Rattle.plans.specs.Items.{present}
use Rattle.plans.specs.Counts.{row_at, entry}
use Rattle.plans.specs.Above.{Passing}
use Rattle.plans.proofs.Entries.{empty_row}
use Rattle.plans.proofs.Present.{present_some, present_none}
use Rattle.plans.proofs.PassUp.{passing_start, passing_end, passing_fits, passing_more, passed_over}
use Rattle.plans.proofs.counting.pass_up.Goals as goal
use Rattle.plans.proofs.counting.pass_up.Goals.{in-Some, in_default}

pub loop-container-init : goal.loop-container-init
loop-container-init g c =
    let M = g.P.Plan.meaning c.args.plan.now in
    subst (λ rest. Passing M c.args.o c.args.item rest (entry c.args.chains.now.counts)) (sym c.containers-container-items.ensures.answer)
    (passing_start M (g.met.P.Plan.lawful c.args.plan.now) c.args.o c.args.item (entry c.args.chains.now.counts) c.requires.1)

pub lengthen-requires-clause-fits : goal.lengthen-requires-clause-fits
lengthen-requires-clause-fits g c =
    let M = g.P.Plan.meaning c.args.plan.now in
    let items = c.containers-container-items.result in
    let half = subst (λ rest. Passing M c.args.o c.args.item rest (entry c.loop-container.chains.counts))
    (present_some items c.loop-container.container-index c.in-Some.container c.in-Some.is) c.loop-container.invariant in
    passing_fits M (g.met.P.Plan.lawful c.args.plan.now) c.args.o c.args.item c.in-Some.container (present (drop (suc c.loop-container.container-index) items))
    (entry c.loop-container.chains.counts) c.requires.0 half

pub loop-container-preserved : goal.loop-container-preserved
loop-container-preserved g c =
    let M = g.P.Plan.meaning c.args.plan.now in
    let items = c.containers-container-items.result in
    let i = c.loop-container.container-index in
    rw (add-one i) (elim c.match-container.branch [
      | in-Some w ↦
          let half = subst (λ rest. Passing M c.args.o c.args.item rest (entry c.loop-container.chains.counts))
          (present_some items i w.in-Some.container w.in-Some.is) c.loop-container.invariant in
          let more = passing_more M (g.met.P.Plan.lawful c.args.plan.now) c.args.o c.args.item w.in-Some.container (present (drop (suc i) items))
          (entry c.loop-container.chains.counts) c.requires.0 half (entry w.lengthen.new.self.counts) w.lengthen.ensures.longer in
          subst (λ (t : ItemCounts). Passing M c.args.o c.args.item (present (drop (suc i) items)) (entry t.counts)) (sym w.chains-is) more
      | in_default w ↦
          subst (λ (t : ItemCounts). Passing M c.args.o c.args.item (present (drop (suc i) items)) (entry t.counts)) (sym w.chains-is)
          (subst (λ rest. Passing M c.args.o c.args.item rest (entry c.loop-container.chains.counts)) (present_none items i w.in_default.is) c.loop-container.invariant)
    ])

pub returns-then-not-leads_from : goal.returns-then-not-leads_from
returns-then-not-leads_from g c =
    let t = c.args.chains.now.counts in
    let none : some (ltb 0) (row_at t c.args.item) ≡ false =
    ap (some (ltb 0)) (sym (cond-true (ltb c.args.item 256) (row_at t c.args.item) (replicate 8 0) (lt-ltb c.args.item 256 c.requires.0)))
    ∙ sym c.if-not-leads_from.ensures.answer in
    record {
      passed = passed_over (g.P.Plan.meaning c.args.plan.now) (g.met.P.Plan.lawful c.args.plan.now) c.args.o c.args.item
          (entry t) c.requires.0 c.requires.1 (λ k l. empty_row (row_at t c.args.item) k none);
    }

pub returns : goal.returns
returns g c =
    let M = g.P.Plan.meaning c.args.plan.now in
    let items = c.containers-container-items.result in
    let none : drop c.loop-container.container-index items ≡ [] = search (rules, drop_all) in
    record {
      passed = passing_end M c.args.o c.args.item (entry c.loop-container.chains.counts)
          (subst (λ cs. Passing M c.args.o c.args.item (present cs) (entry c.loop-container.chains.counts)) none c.loop-container.invariant);
    }
