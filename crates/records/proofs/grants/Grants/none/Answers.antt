use Rattle.std.proofs.Common.{refl}
use Rattle.records.proofs.Kept.{none_kept}
use Rattle.records.proofs.grants.Grants.none.Goals as goal

pub returns-clause-kept : goal.returns-clause-kept
returns-clause-kept c n = none_kept n _ refl
