use Rattle.std.proofs.Common.{rules}
use Rattle.fields.proofs.Spellings.{number_spelled}
use Rattle.fields.proofs.field.Field.number.Goals as goal

pub returns : goal.returns
returns c = search (rules, number_spelled)
