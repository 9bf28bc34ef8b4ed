use Rattle.std.proofs.Common.{rules}
use Rattle.chains.specs.Table.{shown_members}
use Rattle.counts.proofs.reading.Counts.shows.Goals as goal

pub returns : goal.returns
unfolding shown_members
returns c = search rules
