use Rattle.std.proofs.Common.{◌∙◌}
use Rattle.std.proofs.lemmas.List.{take_rest}
use Rattle.fields.proofs.Blanks.{past_is}
use Rattle.fields.proofs.reading.trim_blanks.Goals as goal

pub returns-clause-value : goal.returns-clause-value
returns-clause-value c =
    let told = c.leading_blanks.ensures in
    take_rest c.args.bytes.now c.leading_blanks.result
    ∙ past_is c.args.bytes.now c.leading_blanks.result (record { within = told.within; before = told.before; found = told.found })
