use Rattle.std.proofs.Common.{get_or, sym, subst}
use Rattle.chains.specs.Table.{shown_members}
use Rattle.walk.specs.Least.{none}
use Rattle.walk.specs.Meaning.{Nearest}
use Rattle.chains.proofs.Shows.{shown_within}
use Rattle.walk.proofs.LeastMeans.{nearest}
use Rattle.walk.proofs.meaning.least_distance.Goals as goal

pub returns : goal.returns
returns c =
    let n = c.args.counts.accounts in
    let E = shown_members n c.args.counts.numbers.now in
    subst (λ x. Nearest E (λ a. get_or c.args.start.now a none) c.args.s x) (sym c.walk.ensures.answer)
    (nearest n E (shown_within n c.args.counts.numbers.now) (λ a. get_or c.args.start.now a none) c.args.s c.requires)
