use Rattle.std.proofs.Common.{◌≡◌, true, false, not, ap, arith, rules}
use Rattle.chains.specs.Tests.{groupless}
use Rattle.chains.proofs.Ranges.{any_from_range}
use Rattle.chains.proofs.Some.{same_test, some_no, some_yes}
use Rattle.lists.specs.Lists.{below, some}
use Rattle.table.specs.Tables.{members_in}
use Rattle.table.proofs.tables.Table.groupless.Goals as goal

pub returns : goal.returns
unfolding groupless
returns c =
    let t = c.args.self.now in let n = t.accounts in
    let E = members_in t in let a = c.args.a in
    let told = any_from_range _ _ _ c.any.result (λ g. E g a ≡ true) (λ g. E g a ≡ false) c.any.ensures.ran (λ g q h. search rules) (λ g q h. search rules) in
    ap not (same_test c.any.result (some (λ g. E g a) (below n))
    (λ e. let (g, low, high, h) = told.0 e in some_yes (λ g. E g a) n g high h)
    (λ e. some_no (λ g. E g a) n (λ g l. told.1 e g (omega arith) l)))
