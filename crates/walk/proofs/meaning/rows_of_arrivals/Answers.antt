use Rattle.std.proofs.Common.{ℕ, get_or, ap, ◌∙◌}
use Rattle.chains.specs.Table.{shown_members}
use Rattle.strategies.specs.declared.rows.Rows.{Rows}
use Rattle.strategies.specs.Rows.{row_at}
use Rattle.walk.specs.Counts.{no_rows}
use Rattle.walk.proofs.RowMeans.{rows_count, counted}
use Rattle.walk.proofs.meaning.rows_of_arrivals.Goals as goal

pub returns : goal.returns
returns c m =
    let n = c.args.counts.accounts in
    let E = shown_members n c.args.counts.numbers.now in
    let s = c.args.s in
    let start : ℕ → Rows = λ a. get_or c.args.start.now a no_rows in
    counted n E (λ a. row_at (start a) m) s (row_at c.walk.result m)
    (λ d h. ap (λ x. row_at x m d) c.walk.ensures.answer ∙ rows_count n E s 8 d h start m)
    (λ short many l d h. ap (λ x. row_at x m d) (c.walk.ensures.every short many l) ∙ rows_count n E s many d h start m)
