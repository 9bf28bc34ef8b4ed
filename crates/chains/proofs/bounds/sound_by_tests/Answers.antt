use Rattle.chains.proofs.Limits.{sound_by_tests}
use Rattle.chains.proofs.bounds.sound_by_tests.Goals as goal

pub returns : goal.returns
returns c = sound_by_tests
