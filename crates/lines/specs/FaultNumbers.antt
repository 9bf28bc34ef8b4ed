-- The number and the column of a line's fault. Assumes nothing.
use Rattle.std.specs.Prelude.{ℕ}
use Rattle.fields.specs.FaultNumbers.{cause_number}
use Rattle.lines.specs.declared.faults.LineFault.{LineFault}
use Rattle.lines.specs.declared.faults.LineFault.TheVariants.{Length, Letter, Field}

-- what a reader of the answers is told
abbrev pub fault_number : LineFault → ℕ
fault_number Length = 17
fault_number Letter = 18
fault_number (Field f) = cause_number f.cause

-- where the fault is, counted from 1
abbrev pub fault_column : LineFault → ℕ
fault_column Length = 1
fault_column Letter = 1
fault_column (Field f) = f.column
