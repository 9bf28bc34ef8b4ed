use Rattle.std.proofs.Common.{length, ap, arith}
use Rattle.lines.proofs.ReadBack.{one_spelling}
use Rattle.reader.proofs.reader.Reader.new.Goals as goal

pub invariant_of-result-clause-behind : goal.invariant_of-result-clause-behind
invariant_of-result-clause-behind c =
    let whole = ap length c.of.ensures.whole in
    omega arith

pub returns-clause-spelling : goal.returns-clause-spelling
returns-clause-spelling c = one_spelling
