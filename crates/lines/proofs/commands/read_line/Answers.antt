use Rattle.std.proofs.Common.{rules}
use Rattle.lines.proofs.Letters.{line_parts}
use Rattle.lines.proofs.ReadBack.{one_spelling}
use Rattle.lines.proofs.commands.read_line.Goals as goal

pub returns-in_default-clause-spelling : goal.returns-in_default-clause-spelling
returns-in_default-clause-spelling c = one_spelling

pub returns-in_err-rest-clause-spelling : goal.returns-in_err-rest-clause-spelling
returns-in_err-rest-clause-spelling c = one_spelling

pub returns : goal.returns
returns c = record { answer = search (rules, line_parts); spelling = one_spelling }
