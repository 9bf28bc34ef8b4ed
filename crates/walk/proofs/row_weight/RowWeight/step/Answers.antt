use Rattle.std.proofs.Common.{◌≡◌, ℕ, ◌-◌, ◌<◌, get_or, sym, ap, ◌∙◌, ⊎_elim, arith, rules}
use Rattle.std.proofs.lemmas.Bool.{cases_lt}
use Rattle.walk.specs.Counts.{count_at, before, later}
use Rattle.walk.specs.RowLaws.{same_row, count_of, before_is, limited_before}
use Rattle.walk.proofs.row_weight.RowWeight.step.Goals as goal

pub returns : goal.returns
returns c =
    let x = c.args.self.now in
    let moved : (d : ℕ) → d < 15 → get_or c.from_fn.result d 0 ≡ before x d =
    λ d h. ⊎_elim
    (λ l. let read : get_or c.from_fn.result d 0 ≡ count_at x (d - 1) = search rules in read ∙ before_is x d l)
    (λ g. let first : d ≡ 0 = omega arith in let none : get_or c.from_fn.result d 0 ≡ 0 = search rules in none ∙ sym (ap (before x) first))
    (cases_lt 0 d) in
    same_row _ (later x) (λ d h. moved d h ∙ limited_before x d h ∙ sym (count_of (before x) d h))
