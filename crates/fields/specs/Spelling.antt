-- How numbers, names and blanks are written in a field. Assumes nothing.
use Rattle.std.specs.Prelude.{◌≡◌, ℕ, ◌+◌, ◌-◌, ◌^◌, ◌<◌, List, ◌++◌, length, take, replicate, decimal, Result, MatchResult, ◌≢◌, slice_index}
use Rattle.strategies.specs.Names.{name_of, number_of}
use Rattle.strategies.specs.declared.strategy.Strategy.{Strategy}
use Rattle.fields.specs.declared.faults.FieldCause.TheVariants.{Blank}
use Rattle.fields.specs.declared.faults.FieldFault.{FieldFault}
use Rattle.fields.specs.Checks.{fault_of}

-- blanks, and then the text, right-justified in the width
abbrev pub right_justified : ℕ → List ℕ → List ℕ
right_justified width text = replicate (width - length text) 32 ++ text

-- a number in its columns, in the usual decimal digits
abbrev pub spelled : ℕ → ℕ → List ℕ
spelled width n = right_justified width (decimal n)

-- a field is read as the number that it spells, and refused where it spells no number of at most nine digits
abbrev pub Spelled : List ℕ → Result ℕ FieldFault → Type 0
Spelled bs r =
    MatchResult r (λ n. (n < 10 ^ 9) × (bs ≡ spelled (length bs) n))
    (λ _. (n : ℕ) → n < 10 ^ 9 → bs ≢ spelled (length bs) n)

-- a field is read as the strategy that it names, and refused where it names none of the forty-eight
abbrev pub Named : List ℕ → Result Strategy FieldFault → Type 0
Named bs r =
    MatchResult r (λ s. bs ≡ right_justified (length bs) (name_of (number_of s)))
    (λ _. (k : ℕ) → k < 48 → bs ≢ right_justified (length bs) (name_of k))

-- a field passes as blank if it is, and is refused at its first byte that is not
abbrev pub FirstFilled : ℕ → List ℕ → Result (Unit {0}) FieldFault → Type 0
FirstFilled column bs r =
    MatchResult r (λ _. bs ≡ replicate (length bs) 32)
    (λ f. (i : ℕ) × (i < length bs) × (f ≡ fault_of Blank (column + i)) × (take i bs ≡ replicate i 32) × (slice_index bs i ≢ 32))
