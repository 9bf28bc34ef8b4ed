-- What is written of a number in its columns, and of an outcome. Assumes nothing.
use Rattle.std.proofs.Common.{◌≡◌, ℕ, zero, suc, ◌+◌, ◌-◌, ◌/◌, ◌%◌, ◌^◌, ◌<◌, ◌≤◌, false, eqb, List, [], ◌∷◌, ◌++◌, length, replicate, decimal, sym, refl, ap, ◌∙◌, ap₂, ⊎_elim, arith, append-nil, length-append}
use Rattle.std.specs.List.{repeat}
use Rattle.std.specs.Fmt.{format_spec, char_count, padded_integral, styled_decimal}
use Rattle.std.proofs.lemmas.Bool.{cases_Bool, eqb-true}
use lib.Utf8.{encode}
use Rattle.std.proofs.lemmas.Fmt.{decimal_digit, decimal_nonempty, decimal_step}
use Rattle.strategies.specs.declared.marks.Sign.{Sign}
use Rattle.lines.specs.Writing.{sign_byte}
use Rattle.output.specs.declared.outcome.Outcome.{Outcome}
use Rattle.output.specs.declared.outcome.Outcome.TheVariants.{Done, Refused, Faulty, Answered}
use Rattle.lines.specs.declared.faults.LineFault.{LineFault}
use Rattle.lines.specs.FaultNumbers.{fault_number, fault_column}
use Rattle.output.specs.Output.{sign_and_totals, outcome_bytes}
use Rattle.fields.specs.Spelling.{right_justified, spelled}

blanks : (n : ℕ) → repeat n (encode 32) ≡ replicate n 32
unfolding encode
blanks zero = refl
blanks (suc n) = ap (λ l. 32 ∷ l) (blanks n)

gap : (a : ℕ) → a - 0 - char_count [] ≡ a
unfolding char_count
gap a = omega arith

padded : (w : ℕ) (text : List ℕ) → padded_integral (format_spec 32 3 0 w 18446744073709551615) false [] text ≡ right_justified w text
unfolding padded_integral
padded w text =
    let room = w - length text in
    let none : room - room ≡ 0 = omega arith in
    rw (gap room, none, blanks room) (simp append-nil)

pub justified : (w n : ℕ) → styled_decimal (format_spec 32 3 0 w 18446744073709551615) n ≡ spelled w n
justified w n =
    ⊎_elim
    (λ p.
    let zero_wide : w ≡ 0 = eqb-true w 0 p in
    let none : 0 ≡ w - length (decimal n) = omega arith in
    rw p (ap (λ k. replicate k 32 ++ decimal n) none))
    (λ p. rw p (padded w (decimal n)))
    (cases_Bool (eqb w 0))

pub laid : (s : _) (w n : ℕ) → s ≡ format_spec 32 3 0 w 18446744073709551615 → styled_decimal s n ≡ spelled w n
laid s w n is = ap (λ s. styled_decimal s n) is ∙ justified w n

-- one digit, two, and more
pub two_blanks : (n : ℕ) → n < 10 → ◌≡◌ {A = List ℕ} (32 ∷ 32 ∷ []) (replicate (3 - length (decimal n)) 32)
two_blanks n few = let one : 2 ≡ 3 - length (decimal n) = omega (arith, ap length (decimal_digit n few)) in ap (λ (k : ℕ). replicate {A = ℕ} k 32) one

more_digits : (n : ℕ) → 10 ≤ n → n < 2 ^ 64 → length (decimal n) ≡ length (decimal (n / 10)) + 1
more_digits n more small = ap length (decimal_step n more small) ∙ length-append (decimal (n / 10)) ((48 + n % 10) ∷ [])

pub one_blank : (n : ℕ) → 10 ≤ n → n < 100 → ◌≡◌ {A = List ℕ} (32 ∷ []) (replicate (3 - length (decimal n)) 32)
one_blank n more few =
    let long = more_digits n more (omega arith) in
    let first = ap length (decimal_digit (n / 10) (omega arith)) in
    let one : 1 ≡ 3 - length (decimal n) = omega arith in
    ap (λ (k : ℕ). replicate {A = ℕ} k 32) one

pub no_blank : (n : ℕ) → 100 ≤ n → n < 2 ^ 64 → ◌≡◌ {A = List ℕ} [] (replicate (3 - length (decimal n)) 32)
no_blank n more small =
    let long = more_digits n (omega arith) small in
    let front = more_digits (n / 10) (omega arith) (omega arith) in
    let some = decimal_nonempty (n / 10 / 10) (omega arith) in
    let none : 0 ≡ 3 - length (decimal n) = omega arith in
    ap (λ (k : ℕ). replicate {A = ℕ} k 32) none

-- a zero in three columns
zero_column : 32 ∷ 32 ∷ 48 ∷ [] ≡ spelled 3 0
zero_column = sym (ap (right_justified 3) (decimal_digit 0 (omega arith)))

pub done : (o : Outcome) → o ≡ Done → 32 ∷ 32 ∷ 48 ∷ 32 ∷ 32 ∷ 48 ∷ [] ≡ outcome_bytes o
done o is = ap₂ (λ (x y : List ℕ). x ++ y) zero_column zero_column ∙ sym (ap outcome_bytes is)

pub refused : (o : Outcome) (n : ℕ) (x : List ℕ) → o ≡ Refused n → x ≡ spelled 3 n → x ++ (32 ∷ 32 ∷ 48 ∷ []) ≡ outcome_bytes o
refused o n x is e = ap₂ (λ (x y : List ℕ). x ++ y) e zero_column ∙ sym (ap outcome_bytes is)

pub faulty : (o : Outcome) (f : LineFault) (n m : ℕ) (x y : List ℕ) → o ≡ Faulty f → n ≡ fault_number f → m ≡ fault_column f → x ≡ spelled 3 n → y ≡ spelled 3 m → x ++ y ≡ outcome_bytes o
faulty o f n m x y is number column e d =
    ap₂ (λ (x y : List ℕ). x ++ y) (e ∙ ap (spelled 3) number) (d ∙ ap (spelled 3) column) ∙ sym (ap outcome_bytes is)

pub answered : (o : Outcome) (sign : Sign) (b p m : ℕ) (x y : List ℕ) → o ≡ Answered sign p m → b ≡ sign_byte sign → x ≡ spelled 13 p → y ≡ spelled 13 m
    → 32 ∷ 32 ∷ 48 ∷ 32 ∷ 32 ∷ 48 ∷ 32 ∷ b ∷ (x ++ y) ≡ outcome_bytes o
answered o sign b p m x y is byte e d =
    ap₂ (λ (c : ℕ) (l : List ℕ). 32 ∷ 32 ∷ 48 ∷ 32 ∷ 32 ∷ 48 ∷ 32 ∷ c ∷ l) byte (ap₂ (λ (x y : List ℕ). x ++ y) e d)
    ∙ ap (λ (z : List ℕ). z ++ sign_and_totals sign p m) (ap₂ (λ (x y : List ℕ). x ++ y) zero_column zero_column)
    ∙ sym (ap outcome_bytes is)
