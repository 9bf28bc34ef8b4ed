use Rattle.chains.proofs.Limits.{too_many_exactly}
use Rattle.chains.proofs.bounds.too_many_exactly.Goals as goal

pub returns : goal.returns
returns c = too_many_exactly
