use Rattle.ffi.proofs.Strategies.{with_number}
use Rattle.ffi.proofs.requests.strategy_with.Goals as goal

pub returns : goal.returns
returns c = with_number c.args.number c.numbered.result c.numbered.ensures.found c.numbered.ensures.back
