use Rattle.walk.proofs.EveryChain.{can_be_listed}
use Rattle.walk.proofs.meaning.every_chain_can_be_listed.Goals as goal

pub returns : goal.returns
returns c = can_be_listed
