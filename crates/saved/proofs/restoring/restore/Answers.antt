use Rattle.std.proofs.Common.{◌≡◌, ℕ, List, length, take, sym, ap, ◌∙◌, subst, rules, arith}
use Rattle.lists.specs.Lists.{some}
use Rattle.chains.specs.Chains.{Sound}
use Rattle.chains.specs.Table.{shown_members, size, table_of}
use Rattle.chains.specs.Tests.{too_long, too_many}
use Rattle.chains.proofs.Limits.{sound_by_tests}
use Rattle.chains.proofs.Shows.{shown_within}
use Rattle.table.specs.Tables.{members_in}
use Rattle.table.specs.declared.tables.Table.{Table}
use Rattle.model.specs.Grants.{misfit, repeated}
use Rattle.model.specs.Model.{Model}
use Rattle.book.specs.Books.{accounts_of, capacity_in, counts_in}
use Rattle.book.specs.declared.books.Book.{Book}
use Rattle.book.proofs.Asked.{standing}
use Rattle.saved.specs.Saved.{LeftByABook, before}
use Rattle.saved.proofs.Accepted.{on_err}
use Rattle.saved.proofs.Before.{before_all, before_none}
use Rattle.saved.proofs.restoring.restore.Goals as goal

-- a book with all memberships that the counts show has their table
module _ (n N : ℕ) (t : List ℕ) (b : Book) (en : n ≡ N) (eb : accounts_of b ≡ N) (all : members_in b.table ≡ before (shown_members n t) n 0) where
  shows_them : members_in b.table ≡ shown_members N t
  shows_them = all ∙ before_all n (shown_members n t) (shown_within n t) ∙ ap (λ (k : ℕ). shown_members k t) en

  table_is : take (size N) (counts_in b) ≡ table_of N (shown_members N t)
  table_is = ap (λ (k : ℕ). take (size k) (counts_in b)) (sym eb) ∙ b.table.laid ∙ (λ i. table_of (eb i) (shows_them i))

  short_is : too_long N (shown_members N t) ≡ too_long (accounts_of b) (members_in b.table)
  short_is = λ i. too_long (sym eb i) (sym shows_them i)

  few_is : too_many N (shown_members N t) ≡ too_many (accounts_of b) (members_in b.table)
  few_is = λ i. too_many (sym eb i) (sym shows_them i)

pub rejoin-requires-clause-none : goal.rejoin-requires-clause-none
rejoin-requires-clause-none c = ap (λ (M : Model). M.members) c.requires.made ∙ before_none (shown_members c.accounts-accounts.result c.args.counts.now)

pub returns-in_err-rejoin-clause-failed : goal.returns-in_err-rejoin-clause-failed
returns-in_err-rejoin-clause-failed c =
    let t = c.args.counts.now in
    let N = accounts_of c.args.book.now in
    let failed : LeftByABook N (capacity_in c.args.book.now) t c.args.grants.now → ⊥ = λ left.
    c.in_err-rejoin.ensures.failed
    (subst (λ (k : ℕ). Sound k (shown_members k t)) (sym c.accounts-accounts.ensures)
    ((sound_by_tests N (shown_members N t) (shown_within N t)).1 (left.short, left.few))) in
    on_err _ _ failed

pub returns-then-ne-clause-failed : goal.returns-then-ne-clause-failed
returns-then-ne-clause-failed c left =
    let joined = c.in_ok-rejoin.ensures in
    let t = c.args.counts.now in
    let n = c.accounts-accounts.result in
    let N = accounts_of c.args.book.now in
    let b = c.rejoin.new.book in
    let en : n ≡ N = c.accounts-accounts.ensures in
    let differ : take (size n) t ≡ take (size n) c.counts.result.now → ⊥ = search rules in
    differ
    (ap (λ (k : ℕ). take (size k) t) en
    ∙ left.table
    ∙ sym (table_is n N t b en joined.same.1 joined.done)
    ∙ ap (λ (k : ℕ). take (size k) (counts_in b)) (sym en)
    ∙ ap (take (size n)) (sym c.counts.ensures))

pub returns-clause-done : goal.returns-clause-done
returns-clause-done c =
    let joined = c.in_ok-rejoin.ensures in
    let told = c.in_ok-regrant.ensures in
    λ i. record {
      members =
          (ap members_in told.same.0
          ∙ shows_them c.accounts-accounts.result (accounts_of c.args.book.now) c.args.counts.now c.rejoin.new.book c.accounts-accounts.ensures joined.same.1 joined.done) i;
      grants = told.done i;
    }

pub returns-clause-left : goal.returns-clause-left
returns-clause-left c =
    let told = c.in_ok-regrant.ensures in
    let joined = c.in_ok-rejoin.ensures in
    let t = c.args.counts.now in
    let n = c.accounts-accounts.result in
    let N = accounts_of c.args.book.now in
    let b = c.rejoin.new.book in
    let last = c.regrant.new.book in
    let en : n ≡ N = c.accounts-accounts.ensures in
    let eb : accounts_of b ≡ N = joined.same.1 in
    let el : accounts_of last ≡ N = ap (λ (x : Table). x.accounts) told.same.0 ∙ eb in
    let all = joined.done in
    let agree : take (size n) t ≡ take (size n) c.counts.result.now = search rules in
    record {
      table =
          ap (λ (k : ℕ). take (size k) t) (sym en)
          ∙ agree
          ∙ ap (take (size n)) c.counts.ensures
          ∙ ap (λ (k : ℕ). take (size k) (counts_in b)) en
          ∙ table_is n N t b en eb all;
      short = short_is n N t b en eb all ∙ b.table.short;
      few = few_is n N t b en eb all ∙ b.table.few;
      room = let few = (standing last).room in let many = ap length told.done in let first = told.same.1 in let second = joined.same.2 in omega arith;
      fitting = (λ i. some (misfit (sym el i)) (sym told.done i)) ∙ (standing last).fitting;
      once = ap repeated (sym told.done) ∙ (standing last).once;
    }

pub returns-in_err-regrant-clause-failed : goal.returns-in_err-regrant-clause-failed
returns-in_err-regrant-clause-failed c =
    let joined = c.in_ok-rejoin.ensures in
    let N = accounts_of c.args.book.now in
    let gs = c.args.grants.now in
    let failed : LeftByABook N (capacity_in c.args.book.now) c.args.counts.now gs → ⊥ = λ left.
    c.in_err-regrant.ensures.failed (let few = left.room in let second = joined.same.2 in omega arith)
    (ap (λ (k : ℕ). some (misfit k) gs) joined.same.1 ∙ left.fitting) left.once in
    on_err _ _ failed
