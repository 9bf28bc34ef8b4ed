use Rattle.std.proofs.Common.{sym, ◌∙◌, subst}
use mathlib.Core.Path.{fun_ext}
use Rattle.strategies.specs.declared.marks.Mark.TheVariants.{Signed}
use Rattle.model.specs.Counted.{listed_lengths}
use Rattle.model.specs.Question.{listing}
use Rattle.model.proofs.Bounds.{fit_items}
use Rattle.model.proofs.Counting.{counted_signed}
use Rattle.table.specs.Tables.{members_in}
use Rattle.walked.specs.Asked.{standing}
use Rattle.walked.specs.Distances.{FirstIfAny}
use Rattle.walked.specs.Starts.{lengths_in}
use Rattle.walked.proofs.Lengths.{read_listed, of_grants_same}
use Rattle.walked.proofs.Listed.{least_listed}
use Rattle.walked.proofs.asking.least_distance.Goals as goal

pub returns : goal.returns
returns g c =
    let t = c.args.from.now.table.now in
    let grants = c.args.from.now.grants.now in
    let above = c.item_counts-above.result in
    let I = g.P.Plan.meaning c.args.plan.now in
    let s = c.args.access.account in
    let o = c.args.access.item in
    let r = c.args.access.right in
    let sign = c.args.sign in
    let same = read_listed I o above c.item_counts-above.ensures.counted grants (fit_items t.accounts grants c.args.from.now.fitting) in
    least_listed (Signed sign) (listing t.accounts (standing t grants) I s o r) c.nearest_from.result
    (subst (λ f. FirstIfAny f c.nearest_from.result)
    (fun_ext (λ d.
    of_grants_same t.accounts (members_in t) (lengths_in above.counts) (listed_lengths I o) s r sign d grants same
    ∙ sym (counted_signed t.accounts (standing t grants) I s o r d sign)))
    c.nearest_from.ensures)
