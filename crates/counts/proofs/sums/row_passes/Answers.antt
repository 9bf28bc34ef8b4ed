use Rattle.std.proofs.Common.{◌≡◌, ◌+◌, ◌≤◌, get_or, inl, inr, ap, ◌∙◌, arith, rules}
use Rattle.std.proofs.lemmas.Bool.{cases_eq}
use Rattle.chains.proofs.Ranges.{any_from_range}
use Rattle.counts.specs.Rows.{at_of, through}
use Rattle.counts.proofs.Rows.{through_start}
use Rattle.counts.proofs.sums.row_passes.Goals as goal

pub returns-clause-no : goal.returns-clause-no
returns-clause-no c =
    let sum = through (at_of c.args.up.now) (at_of c.args.down.now) in
    let told = any_from_range _ _ _ c.any.result (λ k. Unit {0}) (λ k. get_or c.args.row.now k 0 + sum k ≤ 99999)
    c.any.ensures.ran (λ k q h. tt) (λ k q h. search rules) in
    λ e k l. elim (cases_eq k 0) [
      | inl first ↦
          let none : sum k ≡ 0 = ap sum first ∙ through_start _ _ in
          omega (arith, c.requires.low k l)
      | inr more ↦ told.1 e k (omega arith) l
    ]
