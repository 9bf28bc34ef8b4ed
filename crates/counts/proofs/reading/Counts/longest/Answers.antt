use Rattle.std.proofs.Common.{◌≡◌, ℕ, ◌<◌, get_or, sym, ◌∙◌, arith, rules}
use Rattle.counts.proofs.Rows.{row_is}
use Rattle.counts.proofs.reading.Counts.longest.Goals as goal

pub returns-clause-above : goal.returns-clause-above
returns-clause-above c =
    let xs = c.row.result.now in let r = c.unwrap_or.result in
    let none : (k : ℕ) → r < k → k < 8 → get_or xs k 0 ≡ 0 = search rules in
    λ k more l. sym (row_is c.args.self.numbers.now xs c.args.self.accounts c.args.a c.args.s c.row.ensures k l) ∙ none k more l

pub returns-clause-some : goal.returns-clause-some
returns-clause-some c =
    let xs = c.row.result.now in let r = c.unwrap_or.result in
    let some : 0 < r → 0 < get_or xs r 0 = search rules in
    let bound : r < 8 = search rules in
    λ pos. omega (arith, some pos, row_is c.args.self.numbers.now xs c.args.self.accounts c.args.a c.args.s c.row.ensures r bound)
