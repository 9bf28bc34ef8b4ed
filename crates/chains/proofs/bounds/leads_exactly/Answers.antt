use Rattle.chains.proofs.Limits.{leads_exactly}
use Rattle.chains.proofs.bounds.leads_exactly.Goals as goal

pub returns : goal.returns
returns c = leads_exactly
