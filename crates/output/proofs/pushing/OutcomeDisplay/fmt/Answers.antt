use Rattle.std.proofs.Common.{refl, rules}
use Rattle.std.proofs.lemmas.Grind.{put_two}
use Rattle.std.proofs.Output.{has_written_of_eq}
use Rattle.output.proofs.Columns.{laid, done, refused, answered}
use Rattle.output.proofs.pushing.OutcomeDisplay.fmt.Goals as goal

pub returns-in-Done-clause-writes : goal.returns-in-Done-clause-writes
returns-in-Done-clause-writes g c = λ plain ok. has_written_of_eq _ _ _ _ _ (done _ c.in-Done.is) (c.write_str.ensures.writes plain ok)

pub returns-in_ok-write_column-in-Refused-clause-writes : goal.returns-in_ok-write_column-in-Refused-clause-writes
returns-in_ok-write_column-in-Refused-clause-writes g c = λ plain ok.
    let first = c.write_column.ensures plain (search rules) in
    put_two _ _ _ _ _ _ _ first (c.write_str-in-Refused.ensures.writes first.plain ok) (refused _ _ _ c.in-Refused.is refl)

pub returns-in-Answered-Plus-default-default-clause-writes : goal.returns-in-Answered-Plus-default-default-clause-writes
returns-in-Answered-Plus-default-default-clause-writes g c = λ plain ok.
    has_written_of_eq _ _ _ _ _
    (answered _ _ _ _ _ _ _ c.in-Answered-Plus-default-default.is (search rules)
    (laid _ 13 _ c.laid_out.ensures) (laid _ 13 _ c.laid_out-in-Answered-Plus-default-default.ensures))
    (c.write.ensures.writes plain ok)

pub returns-in-Answered-Minus-default-default-clause-writes : goal.returns-in-Answered-Minus-default-default-clause-writes
returns-in-Answered-Minus-default-default-clause-writes g c = λ plain ok.
    has_written_of_eq _ _ _ _ _
    (answered _ _ _ _ _ _ _ c.in-Answered-Minus-default-default.is (search rules)
    (laid _ 13 _ c.laid_out-in-Answered-Minus-default-default.ensures) (laid _ 13 _ c.laid_out-in-Answered-Minus-default-default-2.ensures))
    (c.write-in-Answered-Minus-default-default.ensures.writes plain ok)
