-- The number of a field's fault. Assumes nothing.
use Rattle.std.specs.Prelude.{ℕ}
use Rattle.strategies.specs.Names.{refusal_number}
use Rattle.fields.specs.declared.faults.FieldCause.{FieldCause}
use Rattle.fields.specs.declared.faults.FieldCause.TheVariants.{Name, Number, Blank, Sign}

-- a wrong name keeps the number that it has everywhere, 16
abbrev pub cause_number : FieldCause → ℕ
cause_number (Name refusal) = refusal_number refusal
cause_number Number = 19
cause_number Blank = 20
cause_number Sign = 20
