use Rattle.strategies.specs.Rows.{row_at}
use Rattle.model.proofs.Bounds.{fit_accounts}
use Rattle.table.specs.Tables.{members_in}
use Rattle.walked.specs.Taking.{start_at}
use Rattle.walked.proofs.Found.{rows_found}
use Rattle.walked.proofs.Requires.{in_range, told_rows}
use Rattle.walked.proofs.asking.rows_from.Goals as goal

pub grants_start-starts-requires : goal.grants_start-starts-requires
grants_start-starts-requires c = in_range c.args.from.now.table.now c.args.from.now.grants.now c.args.from.now.fitting

pub returns : goal.returns
returns c =
    let t = c.args.from.now.table.now in
    let grants = c.args.from.now.grants.now in
    let y = c.mark_defaults.new.starts in
    let rows = c.rows_of_arrivals.result in
    rows_found t.accounts (members_in t) grants c.args.above.now c.args.access.account c.args.access.right t.holds.few
    (fit_accounts t.accounts grants c.args.from.now.fitting) c.args.from.now.room c.grants_start-starts.result y c.grants_start-starts.ensures
    c.mark_defaults.ensures rows
    (λ m.
    told_rows t c.view.result.accounts c.view.result.numbers.now c.view.ensures.accounts c.view.ensures.numbers
    (λ a. row_at (start_at y a) m) c.args.access.account (row_at rows m) (c.rows_of_arrivals.ensures m))
