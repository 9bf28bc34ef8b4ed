-- What the fields of a line say, or their fault. Assumes nothing.
use Rattle.std.specs.Prelude.{ℕ, ◌+◌, Bool, cond, List, [], ◌∷◌, length, Some, None, Ok, Err, Option, Result, ◌==◌}
use Rattle.std.specs.Option.{ok_or}
use Rattle.strategies.specs.declared.marks.Sign.{Sign}
use Rattle.strategies.specs.declared.marks.Sign.TheVariants.{Plus, Minus}
use Rattle.strategies.specs.declared.strategy.Strategy.{Strategy}
use Rattle.fields.specs.declared.faults.FieldCause.{FieldCause}
use Rattle.fields.specs.declared.faults.FieldCause.TheVariants as cause
use Rattle.fields.specs.declared.faults.FieldFault.{FieldFault}
use Rattle.fields.specs.Fields.{field_number, past_blanks}
use Rattle.fields.specs.Names.{strategy_named}

-- go on with what was read, or stop at its fault
abbrev pub then : {A B E : Type 0} → Result A E → (A → Result B E) → Result B E
then (Ok x) f = f x
then (Err e) f = Err e

-- a fault with its cause and its column
abbrev pub fault_of : FieldCause → ℕ → FieldFault
fault_of c column = record { cause = c; column = column }

-- a right-justified number in a field that begins at the column
abbrev pub number_in : List ℕ → ℕ → Result ℕ FieldFault
number_in bs column = ok_or (field_number bs) (fault_of cause.Number column)

-- each byte is a blank, the first in the given column
abbrev pub blanks_from : ℕ → List ℕ → Result (Unit {0}) FieldFault
blanks_from column [] = Ok tt
blanks_from column (c ∷ cs) =
    cond (c == 32) (blanks_from (column + 1) cs) (Err (fault_of cause.Blank column))

-- nothing but blanks
abbrev pub is_blank : List ℕ → Bool
is_blank bs = length (past_blanks bs) == 0

-- a number, or a field that is left blank
abbrev pub optional_in : List ℕ → ℕ → Result (Option ℕ) FieldFault
optional_in bs column = cond (is_blank bs) (Ok None) (then (number_in bs column) (λ n. Ok (Some n)))

-- + is 43, - is 45
abbrev pub sign_at : ℕ → ℕ → Result Sign FieldFault
sign_at c column =
    cond (c == 43) (Ok Plus) (cond (c == 45) (Ok Minus) (Err (fault_of cause.Sign column)))

-- a sign alone
abbrev pub sign_in : List ℕ → ℕ → Result Sign FieldFault
sign_in [] column = Err (fault_of cause.Sign column)
sign_in (c ∷ []) column = sign_at c column
sign_in (c ∷ d ∷ cs) column = Err (fault_of cause.Sign column)

-- a right-justified name of a strategy
abbrev pub name_in : List ℕ → ℕ → Result Strategy FieldFault
name_in bs column = ok_or (strategy_named (past_blanks bs)) (fault_of (cause.Name (record {})) column)
