use Rattle.chains.proofs.Table.{short_by_eight, eight_when_short}
use Rattle.chains.proofs.bounds.short_by_eight.Goals as goal

pub returns : goal.returns
returns c = λ n E w. (λ short a s la ls. eight_when_short n E w short a s, short_by_eight n E w)
