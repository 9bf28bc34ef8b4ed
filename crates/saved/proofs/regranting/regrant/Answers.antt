use Rattle.std.proofs.Common.{◌≡◌, ℕ, ◌<◌, ◌≤◌, ◌≢◌, false, length, get_or, sym, ap, ◌∙◌, subst, arith}
use Rattle.std.proofs.lemmas.List.{length-take-le}
use Rattle.strategies.specs.declared.marks.Sign.TheVariants.{Plus}
use Rattle.lists.specs.Lists.{some}
use Rattle.model.specs.Grants.{is_for, misfit, repeated}
use Rattle.model.specs.declared.grant.Grant.{Grant}
use Rattle.table.specs.declared.tables.Table.{Table}
use Rattle.book.specs.Books.{accounts_of, capacity_in, shown}
use Rattle.saved.proofs.Accepted.{give_accepted, on_err}
use Rattle.saved.proofs.Given.{new_at, none_at}
use Rattle.saved.proofs.regranting.regrant.Goals as goal

pub returns-in_err-give_again-clause-failed : goal.returns-in_err-give_again-clause-failed
returns-in_err-give_again-clause-failed c =
    let inv = c.loop-grant.invariant in
    let i = c.loop-grant.grant-index in
    let gs = c.args.grants.now in
    let b = c.loop-grant.book in
    let blank : Grant = record { account = 0; item = 0; right = 0; sign = Plus } in
    let g : Grant = get_or gs i blank in
    let inside : i < length gs = c.loop-grant-test.true in
    let n-is : accounts_of b ≡ accounts_of c.args.book.now = ap (λ (t : Table). t.accounts) inv.1 in
    let failed : length gs ≤ capacity_in c.args.book.now → some (misfit (accounts_of c.args.book.now)) gs ≡ false → repeated gs ≢ false = λ room fits once.
    let few : length (shown b).grants ≡ i = ap length inv.0 ∙ length-take-le i gs (omega arith) in
    let at = inv.2 in
    c.in_err-give_again.ensures.refused
    (give_accepted (accounts_of b) (capacity_in b) (shown b) g
    (subst (λ (n : ℕ). misfit n g ≡ false) (sym n-is) (none_at (misfit (accounts_of c.args.book.now)) gs i blank inside fits))
    (ap (some (is_for g.account g.item g.right)) inv.0 ∙ new_at gs i blank inside once)
    (omega arith)) in
    on_err _ _ failed
