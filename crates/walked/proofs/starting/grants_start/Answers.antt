use Rattle.std.proofs.Common.{◌+◌, get_or, take, sym, refl, subst}
use Rattle.model.specs.declared.grant.Grant.{Grant}
use Rattle.strategies.specs.declared.marks.Sign.TheVariants.{Plus}
use Rattle.walked.specs.Starts.{lengths_in}
use Rattle.walked.specs.Taking.{FromGrants}
use Rattle.walked.proofs.Filling.{from_none, from_more, from_skip}
use Rattle.walked.proofs.starting.grants_start.Goals as goal
use Rattle.walked.proofs.starting.grants_start.Goals.{then-grant-right, else-grant-right}

pub loop-grant-init : goal.loop-grant-init
loop-grant-init c = from_none c.args.grants.now (lengths_in c.args.above.now.counts) c.args.right c.no_starts-starts.result c.no_starts-starts.ensures

pub loop-grant-preserved : goal.loop-grant-preserved
loop-grant-preserved c =
    let grants = c.args.grants.now in
    let L = lengths_in c.args.above.now.counts in
    let i = c.loop-grant.grant-index in
    let none : Grant = record { account = 0; item = 0; right = 0; sign = Plus } in
    elim c.if-grant-right.branch [
      | then-grant-right w ↦
          subst (FromGrants (take (i + 1) grants) L c.args.right) (sym w.starts-is)
          (from_more grants L c.args.right i (get_or grants i none) none c.loop-grant-test.true refl c.loop-grant.starts w.add_grant.new.starts
          w.if-grant-right.true c.loop-grant.invariant w.add_grant.ensures)
      | else-grant-right w ↦
          subst (FromGrants (take (i + 1) grants) L c.args.right) (sym w.starts-is)
          (from_skip grants L c.args.right i (get_or grants i none) none c.loop-grant-test.true refl c.loop-grant.starts w.if-grant-right.false c.loop-grant.invariant)
    ]
