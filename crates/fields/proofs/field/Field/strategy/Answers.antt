use Rattle.std.proofs.Common.{rules}
use Rattle.fields.proofs.NameFields.{read_name}
use Rattle.fields.proofs.field.Field.strategy.Goals as goal

pub returns : goal.returns
returns c =
    let both =
    read_name c.args.self.bytes.now c.trim_blanks.result.now c.args.self.column c.named.result c.map_err.result _
    c.trim_blanks.ensures.value c.named.ensures.found c.named.ensures.back c.map_err.ensures.cases (λ e f h. search rules) in
    record { answer = both.0; named = both.1 }
