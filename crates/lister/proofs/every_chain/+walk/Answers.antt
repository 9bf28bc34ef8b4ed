use Rattle.std.proofs.Common.{◌∷◌, [], List, ◌++◌, sym, ap, ◌∙◌, subst, append_assoc, append-nil}
use Rattle.std.specs.Vec.{vec_items}
use Rattle.lister.specs.declared.every_chain.Chain.{Chain}
use Rattle.lister.specs.Walks.{chain}
use Rattle.lister.proofs.Walks.{each_none, each_taken, each_all, walked_last, walked_on}
use Rattle.lister.proofs.every_chain.+walk.Goals as goal

pub loop-next-init : goal.loop-next-init
loop-next-init g t c = ([], sym (append-nil (vec_items c.push.new.self)), each_none _)

pub loop-next-preserved : goal.loop-next-preserved
loop-next-preserved g t c =
    let so_far = c.loop-next.invariant in
    let one = c.in_ok-walk.ensures.behind in (
      so_far.0 ++ one.0,
      ◌∙◌ {A = List Chain} one.1 (ap (λ (xs : List Chain). xs ++ one.0) so_far.1) ∙ append_assoc (vec_items c.push.new.self) so_far.0 one.0,
      each_taken _ c.deref-next-items.result.now c.loop-next.next-index so_far.0 so_far.2 c.loop-next-test.true one.0 one.2,
    )

pub returns-after-loop-next : goal.returns-after-loop-next
returns-after-loop-next g t c =
    let first = chain c.args.at c.args.length in
    let all = c.loop-next.invariant in
    let told = subst (goal.F-post g c.args.onward.now c.args.at) c.in_ok-onward.was c.onward.ensures in
    let listed = each_all _ c.deref-next-items.result.now c.loop-next.next-index all.0 all.2 c.loop-next-test.false (vec_items c.in_ok-onward.field-0) c.deref-next-items.ensures.value in
    record {
      behind = (
        first ∷ all.0,
        all.1 ∙ ap (λ (xs : List Chain). xs ++ all.0) c.in_ok-push.ensures.items ∙ append_assoc c.args.found.now.items (first ∷ []) all.0,
        walked_on _ _ _ c.in_ok-onward.field-0 all.0 c.if-length.true told listed,
      );
    }

pub returns-else-length : goal.returns-else-length
returns-else-length g t c = record { behind = (chain c.args.at c.args.length ∷ [], c.in_ok-push.ensures.items, walked_last _ _ _ c.if-length.false) }
