use Rattle.model.proofs.Lasting.{runs_standing}
use Rattle.model.proofs.laws.runs_stay_sound.Goals as goal

pub returns : goal.returns
returns c = runs_standing
