use Rattle.std.proofs.Common.{◌≡◌, ℕ, ◌+◌, ◌*◌, ◌<◌, ◌≤◌, get_or, ap, ◌∙◌, mul-le-mul, arith, length-set}
use Rattle.quick.specs.Sums.{at_of, reached}
use Rattle.quick.proofs.Pairs.{reached_few, reached_none, shifted_step}
use Rattle.quick.proofs.sums.add_shifted.Goals as goal

pub overflow_add-row-in-loop-j : goal.overflow_add-row-in-loop-j
overflow_add-row-in-loop-j c =
    let g : ℕ → ℕ = at_of c.args.lengths.now in
    let at : ℕ = c.args.up + c.loop-j.j in
    let within : at < 15 = omega (arith, c.requires.up) in
    let few : c.args.times ≤ 99999 = c.requires.times in
    let small : g c.loop-j.j ≤ 128 = c.requires.small c.loop-j.j in
    let product : c.args.times * g c.loop-j.j ≤ 99999 * 128 = mul-le-mul few small in
    let old = c.loop-j.invariant.1 at within in
    let room = c.requires.room at within in
    let so_far = reached_few c.loop-j.j c.args.up c.args.times g at few c.requires.small in
    omega arith

pub loop-j-init : goal.loop-j-init
loop-j-init c = (
  c.told-row,
  λ d l. let none = reached_none c.args.up c.args.times (at_of c.args.lengths.now) d in omega arith,
)

pub loop-j-preserved : goal.loop-j-preserved
loop-j-preserved c = (
  simp length-set c.loop-j.invariant.0,
  shifted_step c.args.row.now c.loop-j.row c.loop-j.j c.args.up c.args.times (at_of c.args.lengths.now)
      (omega (arith, c.requires.up, c.loop-j.invariant.0)) c.loop-j.invariant.1,
)

pub returns : goal.returns
returns c = record {
  sums = λ d l.
      let all : c.loop-j.j ≡ 8 = omega arith in
      c.loop-j.invariant.1 d l
      ∙ ap (λ j. get_or c.args.row.now d 0 + reached j c.args.up c.args.times (at_of c.args.lengths.now) d) all;
}
