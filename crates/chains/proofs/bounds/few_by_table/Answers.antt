use Rattle.chains.proofs.Table.{few_everywhere}
use Rattle.chains.proofs.bounds.few_by_table.Goals as goal

pub returns : goal.returns
returns c = few_everywhere
