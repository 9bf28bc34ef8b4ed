use Rattle.std.proofs.Common.{◌≡◌, sym, ◌∙◌, arith}
use Rattle.chains.specs.Tests.{leads}
use Rattle.chains.proofs.Limits.{leads_exactly}
use Rattle.chains.proofs.Some.{same_test}
use Rattle.chains.proofs.Told.{leads_no, leads_yes}
use Rattle.table.specs.Tables.{members_in}
use Rattle.table.proofs.Sound.{at, is_short, within}
use Rattle.table.proofs.tables.Table.leads.Goals as goal

answer : (c : goal.After-leads_by) → c.leads_by.result ≡ leads c.args.self.now.accounts (members_in c.args.self.now) c.args.a c.args.s
answer c =
    let t = c.args.self.now in let n = t.accounts in let a = c.args.a in let s = c.args.s in
    let E = members_in t in
    same_test c.leads_by.result (leads n E a s)
    (λ e.
    let some = (rw (c.view.ensures.numbers, c.view.ensures.accounts) at c.leads_by.ensures.yes) e in
    leads_yes n E a s some.0 some.2 (omega (arith, some.3, at t a s some.0 c.requires.top c.requires.end some.2)))
    (λ e. leads_no n E a s (λ k h. sym (at t a s k c.requires.top c.requires.end h) ∙ (rw (c.view.ensures.numbers, c.view.ensures.accounts) at c.leads_by.ensures.no) e k (omega arith) h))

pub returns : goal.returns
returns c =
    let t = c.args.self.now in let a = c.args.a in let s = c.args.s in
    let same = answer c in
    let law = leads_exactly t.accounts (members_in t) (within t) (is_short t) a s in
    record {
      answer = same;
      chain = (λ e. law.0 (sym same ∙ e), λ d. same ∙ law.1 d);
    }
