use Rattle.std.proofs.Common.{◌≡◌, ℕ, ◌<◌, Bool, cond, length, get_or, sym, refl, ap, ◌∙◌, arith}
use lib.ListN.{get_or-replicate}
use Rattle.std.proofs.lemmas.List.{get_or_read}
use Rattle.chains.specs.Table.{shown_members}
use Rattle.walk.proofs.Totals.{total_more, total_idle}
use Rattle.walk.proofs.walking.level_below.Goals as goal
use Rattle.walk.proofs.walking.level_below.Goals.{then-not-is_nothing, else-not-is_nothing}

pub loop-g-init : goal.loop-g-init
loop-g-init g c = λ x h. get_or-replicate 64 x c.nothing-below.result g.W.Weight.nothing (omega (arith, c.args.counts.holds.few)) ∙ c.nothing-below.ensures

pub loop-g-preserved : goal.loop-g-preserved
loop-g-preserved g c =
    let w = g.W.Weight in
    let n = c.args.counts.accounts in
    let at = c.loop-g.g in
    let laws = g.met.W.Weight.lawful in
    let level = c.args.level.now in
    let first = c.index-level-g.result in
    let f : ℕ → g.row.W.Denot = λ y. w.stepped (get_or level y w.nothing) in
    let within : at < length level = omega (arith, c.type_inv.level, c.args.counts.holds.few) in
    elim c.if-not-is_nothing.branch [
      | then-not-is_nothing v ↦
          let again = v.index-level-g-then-not-is_nothing.result in
          let is = v.index-level-g-then-not-is_nothing.is in
          let stepped : v.step-next.result ≡ f at = v.step-next.ensures ∙ ap w.stepped (sym is ∙ get_or_read level at again within is w.nothing) in
          λ x h.
          let p : ℕ → Bool = λ y. shown_members n c.args.counts.numbers.now y x in
          ap (λ r. get_or r x w.nothing) v.below-is ∙ v.spread.ensures x h
          ∙ ap (λ z. cond (p at) (w.plus z v.step-next.result) z) (c.loop-g.invariant x h)
          ∙ ap (λ z. cond (p at) (w.plus _ z) _) stepped
          ∙ sym (total_more laws f p at (p at) refl)
      | else-not-is_nothing v ↦
          let idle : f at ≡ w.nothing =
          ap w.stepped (sym (get_or_read level at first within c.index-level-g.is w.nothing) ∙ c.index-level-g.is ∙ v.if-not-is_nothing.ensures refl) ∙ laws.keeps in
          λ x h.
          ap (λ r. get_or r x w.nothing) v.below-is ∙ c.loop-g.invariant x h
          ∙ sym (total_idle laws f (λ y. shown_members n c.args.counts.numbers.now y x) at idle)
    ]
