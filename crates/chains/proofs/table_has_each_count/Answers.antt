use Rattle.chains.proofs.Laid.{table_at, table_long}
use Rattle.chains.proofs.table_has_each_count.Goals as goal

pub returns : goal.returns
returns c = λ n E. (table_long n E, table_at n E)
