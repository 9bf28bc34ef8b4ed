use Rattle.std.proofs.Common.{◌≡◌, arith, rules, ltb, length, sym, ap, ◌∙◌, subst}
use Rattle.lists.specs.Lists.{some}
use Rattle.walked.specs.Starts.{lengths_in}
use Rattle.walked.specs.Taking.{OneMore, taken}
use Rattle.walked.proofs.Taking.{took, passed_over}
use Rattle.walked.proofs.starting.add_grant.Goals as goal

pub returns-then-any_chain : goal.returns-then-any_chain
returns-then-any_chain c =
    let t = c.args.above.now.counts in
    let g = c.args.grant.now in
    let x = c.args.starts.now in
    let read = c.row-chains.ensures.answer in
    let long : length c.row-chains.result ≡ 8 = search rules in
    let rows : length x.rows ≡ 64 = omega arith in
    let holds : length x.held ≡ 64 = omega arith in
    subst (OneMore (lengths_in t) g x) (sym (c.take_in.ensures ∙ ap (taken x g) read))
    (took t g (sym (ap length read) ∙ long) x rows holds c.requires (sym (c.if-any_chain.ensures.answer ∙ ap (some (ltb 0)) read)))

pub returns-else-any_chain : goal.returns-else-any_chain
returns-else-any_chain c =
    let read = c.row-chains.ensures.answer in
    let long : length c.row-chains.result ≡ 8 = search rules in
    passed_over c.args.above.now.counts c.args.grant.now (sym (ap length read) ∙ long) c.args.starts.now
    (sym (c.if-any_chain.ensures.answer ∙ ap (some (ltb 0)) read))
