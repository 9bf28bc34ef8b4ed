use Rattle.std.proofs.Common.{sym, ◌∙◌}
use Rattle.walk.specs.Counts.{no_counts}
use Rattle.walk.specs.RowLaws.{same_row, count_of}
use Rattle.walk.proofs.row_weight.RowWeight.nothing.Goals as goal

pub returns : goal.returns
returns c = same_row _ no_counts (λ d h. c.none.ensures d ∙ sym (count_of (λ e. 0) d h))
