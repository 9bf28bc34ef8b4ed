use Rattle.model.proofs.Bounds.{fit_items}
use Rattle.walked.specs.Asked.{standing}
use Rattle.walked.specs.Starts.{lengths_in}
use Rattle.walked.proofs.Lengths.{read_listed}
use Rattle.walked.proofs.Listed.{rows_listed}
use Rattle.walked.proofs.Requires.{few_listed}
use Rattle.walked.proofs.asking.walked_rows.Goals as goal

pub returns : goal.returns
returns g c =
    let t = c.args.from.now.table.now in
    let grants = c.args.from.now.grants.now in
    let above = c.item_counts-above.result in
    let I = g.P.Plan.meaning c.args.plan.now in
    rows_listed t.accounts (standing t grants) I (lengths_in above.counts) c.args.access.account c.args.access.item c.args.access.right c.rows_from.result c.rows_from.ensures
    (read_listed I c.args.access.item above c.item_counts-above.ensures.counted grants (fit_items t.accounts grants c.args.from.now.fitting))
    (few_listed t grants c.args.from.now.fitting c.args.from.now.room I (g.met.P.Plan.lawful c.args.plan.now) c.args.access.account c.args.access.item c.args.access.right c.requires)
