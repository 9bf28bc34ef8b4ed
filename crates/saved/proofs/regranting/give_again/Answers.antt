use Rattle.book.specs.Books.{accounts_of, capacity_in, shown}
use Rattle.saved.proofs.Joined.{given_grants}
use Rattle.saved.proofs.regranting.give_again.Goals as goal

pub returns-clause-accepted : goal.returns-clause-accepted
returns-clause-accepted c =
    let b = c.args.book.now in
    given_grants (accounts_of b) (capacity_in b) (shown b) (shown c.grant.new.self) c.args.grant c.grant.result c.grant.ensures.answer c.grant.ensures.after
