use Rattle.book.proofs.Asked.{few_asked}
use Rattle.book.proofs.books.Book.quick.Goals as goal

pub returns-clause-few : goal.returns-clause-few
returns-clause-few g c =
    few_asked c.args.self.now _ (g.met.P.Plan.lawful c.args.plan.now) _ _ _ c.in_ok-admit.ensures.known _ c.standing.ensures.table _ c.standing.ensures.grants
    c.quick_rows-counted.result c.quick_rows-counted.ensures c.answer_from.result c.answer_from.ensures.few
