use Rattle.std.proofs.Common.{◌≡◌, sym, ◌∙◌, rules}
use Rattle.walk.specs.Counts.{count_at, no_counts}
use Rattle.walk.specs.RowLaws.{same_row, count_of}
use Rattle.walk.proofs.row_weight.RowWeight.is_nothing.Goals as goal

pub returns : goal.returns
returns c e =
    same_row c.args.self.now no_counts
    (λ d h. let none : count_at c.args.self.now d ≡ 0 = search rules in none ∙ sym (count_of (λ x. 0) d h))
