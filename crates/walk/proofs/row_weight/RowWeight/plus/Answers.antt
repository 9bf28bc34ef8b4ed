use Rattle.std.proofs.Common.{◌≡◌, ℕ, ◌+◌, ◌<◌, get_or, sym, ◌∙◌, arith, rules, tests}
use Rattle.walk.specs.Counts.{count_at, limited, added}
use Rattle.walk.specs.RowLaws.{same_row, count_of}
use Rattle.walk.proofs.FromFn.{from_each}
use Rattle.walk.proofs.row_weight.RowWeight.plus.Goals as goal

pub invariant_of-result : goal.invariant_of-result
invariant_of-result c =
    let sums : (d : ℕ) → d < 15 → get_or c.from_fn.result d 0 ≡ limited (count_at c.args.self.now d + count_at c.args.other.now d) =
    λ d h. from_each _ _ (λ e. limited (count_at c.args.self.now e + count_at c.args.other.now e)) (λ i y q k. search (rules, tests)) c.from_fn.result 15 0
    c.from_fn.ensures.items.each d (omega arith) (omega arith) in
    record { long = c.from_fn.ensures.items.long; small = λ d h. omega (arith, sums d h) }

pub returns : goal.returns
returns c =
    let sums : (d : ℕ) → d < 15 → get_or c.from_fn.result d 0 ≡ limited (count_at c.args.self.now d + count_at c.args.other.now d) =
    λ d h. from_each _ _ (λ e. limited (count_at c.args.self.now e + count_at c.args.other.now e)) (λ i y q k. search (rules, tests)) c.from_fn.result 15 0
    c.from_fn.ensures.items.each d (omega arith) (omega arith) in
    same_row _ (added c.args.self.now c.args.other.now)
    (λ d h. sums d h ∙ sym (count_of (λ e. count_at c.args.self.now e + count_at c.args.other.now e) d h))
