use Rattle.std.proofs.Common.{ℕ, get_or, ap, ◌∙◌}
use Rattle.chains.specs.Table.{shown_members}
use Rattle.strategies.specs.declared.rows.Row.{Row}
use Rattle.walk.specs.Counts.{count_at, no_counts}
use Rattle.walk.proofs.RowMeans.{row_counts, counted}
use Rattle.walk.proofs.meaning.row_of_arrivals.Goals as goal

pub returns : goal.returns
returns c =
    let n = c.args.counts.accounts in
    let E = shown_members n c.args.counts.numbers.now in
    let s = c.args.s in
    let start : ℕ → Row = λ a. get_or c.args.start.now a no_counts in
    counted n E (λ a. count_at (start a)) s (count_at c.walk.result)
    (λ d h. ap (λ x. count_at x d) c.walk.ensures.answer ∙ row_counts n E s 8 d h start)
    (λ short many l d h. ap (λ x. count_at x d) (c.walk.ensures.every short many l) ∙ row_counts n E s many d h start)
