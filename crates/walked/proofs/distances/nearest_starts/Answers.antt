use Rattle.std.proofs.Common.{◌+◌, get_or, take, sym, refl, subst}
use Rattle.model.specs.declared.grant.Grant.{Grant}
use Rattle.strategies.specs.declared.marks.Sign.TheVariants.{Plus}
use Rattle.walked.specs.Starts.{lengths_in}
use Rattle.walked.specs.Distances.{NearestStarts}
use Rattle.walked.proofs.Lowest.{lowest_at_first, lowest_more, lowest_skip}
use Rattle.walked.proofs.distances.nearest_starts.Goals as goal
use Rattle.walked.proofs.distances.nearest_starts.Goals.{then-is_asked, else-is_asked}

pub loop-grant-init : goal.loop-grant-init
loop-grant-init c =
    lowest_at_first c.args.grants.now (lengths_in c.args.above.now.counts) c.args.right c.args.sign

pub loop-grant-preserved : goal.loop-grant-preserved
loop-grant-preserved c =
    let grants = c.args.grants.now in
    let L = lengths_in c.args.above.now.counts in
    let i = c.loop-grant.grant-index in
    let none : Grant = record { account = 0; item = 0; right = 0; sign = Plus } in
    elim c.if-is_asked.branch [
      | then-is_asked w ↦
          subst (NearestStarts (take (i + 1) grants) L c.args.right c.args.sign) (sym w.starts-is)
          (lowest_more grants L c.args.right i c.args.sign (get_or grants i none) none c.loop-grant-test.true refl c.loop-grant.starts w.lower.new.starts
          (sym w.if-is_asked.ensures) c.loop-grant.invariant w.lower.ensures)
      | else-is_asked w ↦
          subst (NearestStarts (take (i + 1) grants) L c.args.right c.args.sign) (sym w.starts-is)
          (lowest_skip grants L c.args.right i c.args.sign (get_or grants i none) none c.loop-grant-test.true refl c.loop-grant.starts
          (sym w.if-is_asked.ensures) c.loop-grant.invariant)
    ]
