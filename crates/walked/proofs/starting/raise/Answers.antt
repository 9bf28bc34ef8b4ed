use Rattle.std.proofs.Common.{◌≡◌, ℕ, ◌+◌, ◌<◌, get_or, sym, ◌∙◌, arith, rules, tests}
use Rattle.walk.specs.Counts.{count_at, limited}
use Rattle.walk.specs.RowLaws.{same_row, count_of}
use Rattle.walk.proofs.FromFn.{from_each}
use Rattle.walked.specs.Taking.{raised}
use Rattle.walked.proofs.starting.raise.Goals as goal

pub returns : goal.returns
returns c =
    let x = c.args.row.now in
    let chains = c.args.chains.now in
    let sums : (d : ℕ) → d < 15 → get_or c.from_fn.result d 0 ≡ limited (count_at x d + get_or chains d 0) =
    λ d h. from_each _ _ (λ e. limited (count_at x e + get_or chains e 0)) (λ i y q k. search (rules, tests)) c.from_fn.result 15 0
    c.from_fn.ensures.items.each d (omega arith) (omega arith) in
    same_row _ (raised x chains) (λ d h. sums d h ∙ sym (count_of (λ e. count_at x e + get_or chains e 0) d h))
