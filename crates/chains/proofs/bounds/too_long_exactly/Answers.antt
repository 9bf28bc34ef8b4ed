use Rattle.chains.proofs.Limits.{too_long_exactly}
use Rattle.chains.proofs.bounds.too_long_exactly.Goals as goal

pub returns : goal.returns
returns c = too_long_exactly
