use Rattle.std.proofs.Common.{◌≡◌, ℕ, suc, ◌<◌, map, length, get_or, sym, ap, ◌∙◌, add-one, arith}
use Rattle.std.proofs.lemmas.List.{get_or_read}
use Rattle.lists.specs.Lists.{below}
use Rattle.chains.specs.Table.{shown_members}
use Rattle.walk.specs.Weights.{total, times}
use Rattle.walk.specs.Levels.{down}
use Rattle.walk.proofs.Levels.{levels_are, levels_more, levels_stop, down_same}
use Rattle.chains.proofs.Shows.{shown_within}
use Rattle.walk.proofs.EveryChain.{walked}
use Rattle.walk.proofs.walking.walk.Goals as goal

pub loop-k-preserved : goal.loop-k-preserved
loop-k-preserved g c =
    let w = g.W.Weight in
    let n = c.args.counts.accounts in
    let s = c.args.s in
    let laws = g.met.W.Weight.lawful in
    let E = shown_members n c.args.counts.numbers.now in
    let start : ℕ → g.row.W.Denot = λ y. get_or c.args.start.now y w.nothing in
    let one : (ℕ → g.row.W.Denot) → ℕ → g.row.W.Denot = down w.nothing w.plus w.stepped n E in
    let row : ℕ → g.row.W.Denot = λ y. get_or c.loop-k.level y w.nothing in
    let next = c.level_below-level.result in
    let k = c.loop-k._k in
    let right : (x : ℕ) → x < n → get_or next x w.nothing ≡ times one (suc k) start x =
    λ x h. c.level_below-level.ensures x h ∙ down_same laws n E row (times one k start) x c.loop-k.invariant.0 in
    let upto : ℕ → g.row.W.Denot = λ j. total w.nothing w.plus (map (λ i. times one i start s) (below j)) in
    let within : s < length next = omega (arith, c.args.counts.holds.few) in
    let here = c.index-level-s-in-loop-k.result in
    let read : get_or next s here ≡ times one (suc k) start s =
    sym c.index-level-s-in-loop-k.is ∙ get_or_read next s here within c.index-level-s-in-loop-k.is w.nothing ∙ right s c.requires in
    let more : upto (suc (suc k)) ≡ w.plus (upto (suc k)) (times one (suc k) start s) = levels_more laws n E start s (suc k) in (
      λ x h. right x h ∙ ap (λ j. times one j start x) (sym (add-one k)),
      c.plus-sum.ensures ∙ ap (λ z. w.plus z (get_or next s here)) c.loop-k.invariant.1 ∙ ap (w.plus (upto (suc k))) read
          ∙ sym more ∙ ap (λ j. upto (suc j)) (sym (add-one k)),
    )

pub returns-then-is_empty : goal.returns-then-is_empty
returns-then-is_empty g c =
    let w = g.W.Weight in
    let n = c.args.counts.accounts in
    let s = c.args.s in
    let laws = g.met.W.Weight.lawful in
    let E = shown_members n c.args.counts.numbers.now in
    let start : ℕ → g.row.W.Denot = λ y. get_or c.args.start.now y w.nothing in
    let k = c.loop-k._k in
    walked n E s laws (shown_within n c.args.counts.numbers.now) c.requires start c.loop-k.sum
    (c.loop-k.invariant.1
    ∙ sym (levels_stop laws n E start s k c.requires (λ x h. sym (c.loop-k.invariant.0 x h) ∙ c.is_empty.ensures c.if-is_empty.true x h) 7 (omega arith))
    ∙ levels_are laws n E start s c.requires)

pub returns : goal.returns
returns g c =
    let w = g.W.Weight in
    let n = c.args.counts.accounts in
    let s = c.args.s in
    let laws = g.met.W.Weight.lawful in
    let E = shown_members n c.args.counts.numbers.now in
    let start : ℕ → g.row.W.Denot = λ y. get_or c.args.start.now y w.nothing in
    let one : (ℕ → g.row.W.Denot) → ℕ → g.row.W.Denot = down w.nothing w.plus w.stepped n E in
    let end : c.loop-k._k ≡ 7 = omega arith in
    walked n E s laws (shown_within n c.args.counts.numbers.now) c.requires start c.loop-k.sum
    (c.loop-k.invariant.1
    ∙ ap (λ k. total w.nothing w.plus (map (λ j. times one j start s) (below (suc k)))) end
    ∙ levels_are laws n E start s c.requires)
