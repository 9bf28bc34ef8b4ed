use Rattle.std.proofs.Common.{rules, arith, length, ap}
use Rattle.texts.proofs.Cuts.{first_cut}
use Rattle.texts.proofs.lines.LinesIterator.next.Goals as goal

pub returns-clause-steps : goal.returns-clause-steps
returns-clause-steps c =
    let told = c.line_len-len.ensures in
    first_cut _ _ _ (search rules) (record { within = told.within; before = told.before; found = told.found }) c.min.ensures

pub returns-clause-goes : goal.returns-clause-goes
returns-clause-goes c =
    let fewer = ap length (returns-clause-steps c) in
    record { on = λ _. (tt, tt, omega arith); keeps = tt; rests = search rules }
