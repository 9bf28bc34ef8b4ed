-- What is written of the lines of a list. Assumes nothing.
use Rattle.std.specs.Prelude.{◌≡◌, ℕ, List, [], ◌∷◌, ◌++◌, Result, OnOk}
use Rattle.strategies.specs.declared.marks.Sign.{Sign}
use Rattle.output.specs.declared.outcome.Outcome.{Outcome}
use Rattle.output.specs.declared.outcome.Outcome.TheVariants.{Done, Refused, Faulty, Answered}
use Rattle.lines.specs.FaultNumbers.{fault_number, fault_column}
use Rattle.fields.specs.Spelling.{spelled}
use Rattle.lines.specs.Writing.{sign_byte}

-- where memory sufficed, the bytes stand behind those before
abbrev pub Pushed : {E : Type 0} → Result (Unit {0}) E → List ℕ → List ℕ → List ℕ → Type 0
Pushed r before after bytes = OnOk r (after ≡ before ++ bytes)

-- the number of a refusal or a fault and the fault's column, in three columns each
abbrev pub two_numbers : ℕ → ℕ → List ℕ
two_numbers number column = spelled 3 number ++ spelled 3 column

-- a blank, the sign, and both totals in thirteen columns each
abbrev pub sign_and_totals : Sign → ℕ → ℕ → List ℕ
sign_and_totals sign plus minus = 32 ∷ sign_byte sign ∷ (spelled 13 plus ++ spelled 13 minus)

-- the number of a refusal or a fault, the fault's column, and what a question answers
abbrev pub outcome_bytes : Outcome → List ℕ
outcome_bytes Done = two_numbers 0 0
outcome_bytes (Refused number) = two_numbers number 0
outcome_bytes (Faulty f) = two_numbers (fault_number f) (fault_column f)
outcome_bytes (Answered sign plus minus) = two_numbers 0 0 ++ sign_and_totals sign plus minus

-- the line's number in five columns, what it came to, and a line feed
abbrev pub output_line : ℕ → Outcome → List ℕ
output_line number outcome = spelled 5 number ++ (outcome_bytes outcome ++ (10 ∷ []))
