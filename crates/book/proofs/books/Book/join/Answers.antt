use Rattle.std.proofs.Common.{ap}
use Rattle.model.specs.Model.{Model, join_outcome, joined}
use Rattle.model.proofs.Circles.{circle_in}
use Rattle.table.specs.Tables.{members_in}
use Rattle.table.proofs.Sound.{is_short, within}
use Rattle.book.specs.Books.{accounts_of, shown}
use Rattle.book.proofs.Changed.{shown_joined}
use Rattle.book.proofs.Memory.{laid_out}
use Rattle.book.proofs.books.Book.join.Goals as goal

pub returns-clause-circle : goal.returns-clause-circle
unfolding join_outcome
returns-clause-circle c =
    let b = c.args.self.now in
    circle_in (accounts_of b) (members_in b.table) (within b.table) (is_short b.table) c.args.group c.args.member c.join_in.result c.join_in.ensures.answer

pub returns-clause-memory : goal.returns-clause-memory
unfolding join_outcome
returns-clause-memory c =
    let b = c.args.self.now in let n = accounts_of b in let step = c.join_in.ensures in let t = c.join_in.new.table in
    let after = shown_joined n (shown b) c.args.group c.args.member c.join_in.result (members_in t) step.answer step.after in
    laid_out t n (joined n (shown b) c.args.group c.args.member).members _ step.accounts (ap (λ (M : Model). M.members) after) step.memory
