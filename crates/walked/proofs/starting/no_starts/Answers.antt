use Rattle.std.proofs.Common.{false, ◌∙◌}
use lib.ListN.{get_or-replicate}
use Rattle.strategies.specs.declared.rows.Rows.{Rows}
use Rattle.walk.specs.Counts.{no_rows}
use Rattle.walked.proofs.starting.no_starts.Goals as goal

pub returns : goal.returns
returns c = record {
  start = λ a h. get_or-replicate {A = Rows} 64 a c.nothing.result no_rows h ∙ c.nothing.ensures;
  held = λ a h. get_or-replicate 64 a false false h;
}
