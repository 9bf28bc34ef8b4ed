use Rattle.std.proofs.Common.{◌≡◌, min, length, take, ap, ◌∙◌, arith}
use Rattle.std.proofs.lemmas.Grind.{common_steps}
use Rattle.chains.specs.Chains.{count}
use Rattle.chains.proofs.Laid.{laid_at}
use Rattle.model.specs.Model.{Model, just_made}
use Rattle.model.specs.Runs.{run}
use Rattle.table.specs.Tables.{members_in}
use Rattle.book.specs.Books.{accounts_of, counts_in, shown}
use Rattle.runs.proofs.calls.make_and_run.Goals as goal

pub returns-clause-places : goal.returns-clause-places
returns-clause-places g c =
    let book = c.run_calls.new.book in
    let n = accounts_of book in
    let after : shown book ≡ run n (min 512 (length c.args.records.now)) just_made (take (length c.args.replies.now) c.args.calls.now) =
    grind (arith, common_steps) in
    λ a s k ha hs hk. laid_at n (members_in book.table) (counts_in book) book.table.laid a s k ha hs hk ∙ ap (λ (M : Model). count n M.members a s k) after
