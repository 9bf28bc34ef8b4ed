use Rattle.chains.proofs.Laid.{laid_at}
use Rattle.chains.proofs.Shows.{shown_is}
use Rattle.chains.proofs.table_shows_its_members.Goals as goal

pub returns : goal.returns
returns c = λ n E t w e. shown_is n E t w (laid_at n E t e)
