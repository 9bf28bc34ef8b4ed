use Rattle.std.proofs.Common.{ℕ, ◌+◌, get_or, ap, ◌∙◌, arith, length-set}
use Rattle.quick.proofs.Adding.{front_past, row_more}
use Rattle.std.proofs.lemmas.List.{take_all}
use Rattle.quick.proofs.defaults.add_row.Goals as goal

pub overflow_add-row : goal.overflow_add-row
overflow_add-row c =
    let k : ℕ = c.loop-k.k in
    let old = c.loop-k.invariant.1 k (omega arith) in
    let room = c.requires.room k (omega arith) in
    let none = front_past c.args.ups.now k (omega (arith, c.told-ups)) in
    let few = c.requires.ups k in
    omega arith

pub loop-k-preserved : goal.loop-k-preserved
loop-k-preserved c = (
  simp length-set c.loop-k.invariant.0,
  row_more c.args.row.now c.loop-k.row c.args.ups.now c.loop-k.k (omega (arith, c.loop-k.invariant.0)) (omega (arith, c.told-ups)) c.loop-k.invariant.1,
)

pub returns : goal.returns
returns c = record {
  sums = λ d l. c.loop-k.invariant.1 d l ∙ ap (λ xs. get_or c.args.row.now d 0 + get_or xs d 0) (take_all c.loop-k.k c.args.ups.now (omega (arith, c.told-ups)));
}
