use Rattle.std.proofs.Common.{◌≡◌, ℕ, ◌+◌, get_or, ap, ◌∙◌, arith}
use Rattle.lists.specs.Lists.{sum_below}
use Rattle.lists.proofs.Sums.{sum_more}
use Rattle.quick.specs.Sums.{at_of, shifted}
use Rattle.quick.proofs.Pairs.{products_shifted, shifted_none, shifted_sum_few}
use Rattle.quick.proofs.sums.add_pairs.Goals as goal
use Rattle.quick.proofs.sums.add_pairs.Goals.{then-count-gt0, else-count-gt0}

pub add_shifted-requires : goal.add_shifted-requires
add_shifted-requires c =
    let f : ℕ → ℕ = at_of c.args.ups.now in
    let g : ℕ → ℕ = at_of c.args.lengths.now in
    record {
      up = omega arith;
      times = c.requires.ups c.loop-i.i;
      small = c.requires.small;
      room = λ d l.
          let old = c.loop-i.invariant.1 d l in
          let room = c.requires.room d l in
          let few = shifted_sum_few c.loop-i.i f g d (omega arith) c.requires.ups c.requires.small in
          omega arith;
    }

pub loop-i-init : goal.loop-i-init
loop-i-init c = (c.told-row, λ d l. omega arith)

pub loop-i-preserved : goal.loop-i-preserved
loop-i-preserved c =
    let f : ℕ → ℕ = at_of c.args.ups.now in
    let g : ℕ → ℕ = at_of c.args.lengths.now in
    let i : ℕ = c.loop-i.i in
    elim c.if-count-gt0.branch [
      | then-count-gt0 w ↦ (
        c.if-count-gt0.array_long,
        λ d l.
            let more = sum_more i (λ k. shifted k (f k) g d) in
            let old : get_or c.loop-i.row d 0 ≡ get_or c.args.row.now d 0 + sum_below i (λ k. shifted k (f k) g d) = c.loop-i.invariant.1 d l in
            let new : get_or w.add_shifted.new.row d 0 ≡ get_or c.loop-i.row d 0 + shifted i (f i) g d = w.add_shifted.ensures.sums d l in
            let moved = ap (λ row. get_or row d 0) w.row-is in
            let next : get_or c.if-count-gt0.row d 0 ≡ get_or c.args.row.now d 0 + sum_below (i + 1) (λ k. shifted k (f k) g d) = omega arith in
            next,
      )
      | else-count-gt0 w ↦ (
        c.if-count-gt0.array_long,
        λ d l.
            let more = sum_more i (λ k. shifted k (f k) g d) in
            let old : get_or c.loop-i.row d 0 ≡ get_or c.args.row.now d 0 + sum_below i (λ k. shifted k (f k) g d) = c.loop-i.invariant.1 d l in
            let zero : f i ≡ 0 = omega (arith, w.if-count-gt0.false) in
            let none : shifted i (f i) g d ≡ 0 = ap (λ x. shifted i x g d) zero ∙ shifted_none i g d in
            let moved = ap (λ row. get_or row d 0) w.row-is in
            let next : get_or c.if-count-gt0.row d 0 ≡ get_or c.args.row.now d 0 + sum_below (i + 1) (λ k. shifted k (f k) g d) = omega arith in
            next,
      )
    ]

pub returns : goal.returns
returns c = record {
  sums = λ d l.
      let f : ℕ → ℕ = at_of c.args.ups.now in
      let g : ℕ → ℕ = at_of c.args.lengths.now in
      let all : c.loop-i.i ≡ 8 = omega arith in
      c.loop-i.invariant.1 d l
      ∙ ap (λ m. get_or c.args.row.now d 0 + sum_below m (λ i. shifted i (f i) g d)) all
      ∙ ap (λ x. get_or c.args.row.now d 0 + x) (products_shifted f g d);
}
