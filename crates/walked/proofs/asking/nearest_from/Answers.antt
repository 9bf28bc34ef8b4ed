use Rattle.model.proofs.Bounds.{fit_accounts}
use Rattle.table.specs.Tables.{members_in}
use Rattle.table.proofs.Sound.{within}
use Rattle.walked.specs.Distances.{distance_at}
use Rattle.walked.proofs.Found.{first_found}
use Rattle.walked.proofs.Requires.{in_range, told_nearest}
use Rattle.walked.proofs.asking.nearest_from.Goals as goal

pub nearest_starts-starts-requires : goal.nearest_starts-starts-requires
nearest_starts-starts-requires c = in_range c.args.from.now.table.now c.args.from.now.grants.now c.args.from.now.fitting

pub returns : goal.returns
returns c =
    let t = c.args.from.now.table.now in
    let starts = c.nearest_starts-starts.result in
    let x = c.least_distance.result in
    first_found t.accounts (members_in t) c.args.from.now.grants.now c.args.above.now c.args.access.account c.args.access.right t.holds.few
    (fit_accounts t.accounts c.args.from.now.grants.now c.args.from.now.fitting) c.args.sign starts c.nearest_starts-starts.ensures x
    (told_nearest t c.view.result.accounts c.view.result.numbers.now c.view.ensures.accounts c.view.ensures.numbers (distance_at starts) c.args.access.account x c.least_distance.ensures)
    (within t) c.requires
