use Rattle.std.proofs.Common.{ap}
use Rattle.model.specs.Model.{Model, leave_outcome, left}
use Rattle.table.specs.Tables.{members_in}
use Rattle.book.specs.Books.{accounts_of, shown}
use Rattle.book.proofs.Changed.{shown_left}
use Rattle.book.proofs.Memory.{laid_out}
use Rattle.book.proofs.books.Book.leave.Goals as goal

pub returns-clause-memory : goal.returns-clause-memory
unfolding leave_outcome
returns-clause-memory c =
    let b = c.args.self.now in let n = accounts_of b in let step = c.leave_in.ensures in let t = c.leave_in.new.table in
    let after = shown_left n (shown b) c.args.group c.args.member c.leave_in.result (members_in t) step.answer step.after in
    laid_out t n (left n (shown b) c.args.group c.args.member).members _ step.accounts (ap (λ (M : Model). M.members) after) step.memory
