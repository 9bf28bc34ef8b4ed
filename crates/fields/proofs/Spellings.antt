-- A number field holds its number in one spelling, and that spelling is read back. Assumes nothing.
use Rattle.std.proofs.Common.{◌≡◌, ℕ, ◌+◌, ◌-◌, ◌*◌, ◌^◌, ◌<◌, ◌≤◌, true, cond, eqb, leb, List, [], ◌∷◌, length, get_or, Some, None, decimal, Option, Result, sym, refl, ap, ◌∙◌, subst, ⊎_elim, arith, rules}
use Rattle.std.specs.Str.{all_ascii_digits}
use Rattle.std.proofs.lemmas.Str.Parse.{IsNumeralModel, numerals_by_fold, tells_all_ascii_digits, digits_value_short}
use Rattle.std.proofs.lemmas.Fmt.{decimal-digits_value, decimal_nonempty, length-decimal-le, decimal_digit, first_decimal, digits_decimal, digits_value-decimal}
use Rattle.std.proofs.lemmas.Bool.{cond-true, cond-false, cases_Bool, cases_lt, and_from, and_parts, eqb-false, ne_eqb, leb-true, le-leb}
use Rattle.fields.specs.Fields.{is_digit, digits_after, plain_number, past_blanks, field_number}
use Rattle.std.specs.Option.{ok_or}
use Rattle.fields.specs.declared.faults.FieldCause.TheVariants.{Number}
use Rattle.fields.specs.declared.faults.FieldFault.{FieldFault}
use Rattle.fields.specs.Checks.{number_in}
use Rattle.fields.specs.Spelling.{right_justified, spelled, Spelled}
use Rattle.fields.proofs.Blanks.{past_front, past_shorter, justified_past}

abbrev value_after : ℕ → List ℕ → ℕ
value_after n [] = n
value_after n (c ∷ cs) = value_after (n * 10 + (c - 48)) cs

own : IsNumeralModel (λ ds. all_ascii_digits ds ≡ true) (value_after 0)
own = numerals_by_fold _ tells_all_ascii_digits value_after (search rules)

no_some : {n : ℕ} → None ≡ Some n → ⊥
no_some {n} e = let z : ◌≡◌ {A = ℕ} 0 1 = cc in omega arith

after_some : (n : ℕ) (cs : List ℕ) (m : ℕ) → digits_after n cs ≡ Some m → (all_ascii_digits cs ≡ true) × (value_after n cs ≡ m)
after_some n [] m e = (refl, cc)
after_some n (c ∷ cs) m e =
    ⊎_elim
    (λ p.
    let rest = after_some (n * 10 + (c - 48)) cs m (sym (cond-true (is_digit c) (digits_after (n * 10 + (c - 48)) cs) None p) ∙ e) in
    (and_from (is_digit c) (all_ascii_digits cs) p rest.0, rest.1))
    (λ p. absurd (no_some (sym (cond-false (is_digit c) (digits_after (n * 10 + (c - 48)) cs) None p) ∙ e)))
    (cases_Bool (is_digit c))

after_all : (n : ℕ) (cs : List ℕ) → all_ascii_digits cs ≡ true → digits_after n cs ≡ Some (value_after n cs)
after_all n [] h = refl
after_all n (c ∷ cs) h =
    let p = and_parts (is_digit c) (all_ascii_digits cs) h in
    cond-true (is_digit c) (digits_after (n * 10 + (c - 48)) cs) None p.0 ∙ after_all (n * 10 + (c - 48)) cs p.1

-- at most nine digits, without a zero in front of others
record Plain (ds : List ℕ) : Type 0 where
  some : 0 < length ds
  short : length ds ≤ 9
  zero_alone : get_or ds 0 0 ≡ 48 → length ds ≡ 1

short_some : (ds : List ℕ) (n : ℕ) → cond (leb (length ds) 9) (digits_after 0 ds) None ≡ Some n → (length ds ≤ 9) × (digits_after 0 ds ≡ Some n)
short_some ds n e =
    ⊎_elim
    (λ p. (leb-true (length ds) 9 p, sym (cond-true (leb (length ds) 9) (digits_after 0 ds) None p) ∙ e))
    (λ p. absurd (no_some (sym (cond-false (leb (length ds) 9) (digits_after 0 ds) None p) ∙ e)))
    (cases_Bool (leb (length ds) 9))

plain_some : (ds : List ℕ) (n : ℕ) → plain_number ds ≡ Some n → Plain ds × (digits_after 0 ds ≡ Some n)
plain_some [] n e = absurd (no_some e)
plain_some (c ∷ []) n e = (record { some = omega arith; short = omega arith; zero_alone = λ _. refl }, e)
plain_some (c ∷ d ∷ cs) n e =
    ⊎_elim
    (λ p. absurd (no_some (sym (cond-true (eqb c 48) None _ p) ∙ e)))
    (λ p.
    let told = short_some (c ∷ d ∷ cs) n (sym (cond-false (eqb c 48) None _ p) ∙ e) in
    (record { some = omega arith; short = told.0; zero_alone = λ is. absurd (eqb-false c 48 p is) }, told.1))
    (cases_Bool (eqb c 48))

plain_is : (ds : List ℕ) → Plain ds → plain_number ds ≡ digits_after 0 ds
plain_is [] h = absurd (omega (arith, h.some))
plain_is (c ∷ []) h = refl
plain_is (c ∷ d ∷ cs) h =
    cond-false (eqb c 48) None _ (ne_eqb c 48 (λ is. omega (arith, h.zero_alone is)))
    ∙ cond-true (leb (length (c ∷ d ∷ cs)) 9) (digits_after 0 (c ∷ d ∷ cs)) None (le-leb (length (c ∷ d ∷ cs)) 9 h.short)

pub field_spelled : (bs : List ℕ) (n : ℕ) → field_number bs ≡ Some n → (n < 10 ^ 9) × (bs ≡ spelled (length bs) n)
field_spelled bs n e =
    let ds = past_blanks bs in
    let plain = plain_some ds n e in
    let told = after_some 0 ds n plain.1 in
    let small : value_after 0 ds < 10 ^ 9 = digits_value_short own ds 9 told.0 plain.0.short in
    let same : decimal n ≡ ds =
    ap decimal (sym told.1) ∙ decimal-digits_value own ds told.0 plain.0.some plain.0.zero_alone (omega arith) in
    (omega (arith, told.1), justified_past bs ∙ ap (right_justified (length bs)) (sym same))

-- and it is as small as the field is short
pub field_small : (bs : List ℕ) (n width : ℕ) → field_number bs ≡ Some n → length bs ≤ width → n < 10 ^ width
field_small bs n width e short =
    let told = after_some 0 (past_blanks bs) n (plain_some (past_blanks bs) n e).1 in
    let few : length (past_blanks bs) ≤ width = omega (arith, past_shorter bs) in
    subst (λ m. m < 10 ^ width) told.1 (digits_value_short own (past_blanks bs) width told.0 few)

first_digit : (ds : List ℕ) → 0 < length ds → all_ascii_digits ds ≡ true → 32 < get_or ds 0 0
first_digit [] some h = absurd (omega arith)
first_digit (c ∷ cs) some h =
    let digit = (and_parts (is_digit c) (all_ascii_digits cs) h).0 in
    omega (arith, leb-true 48 c (and_parts (leb 48 c) (leb c 57) digit).0)

plain_decimal : (n : ℕ) → n < 10 ^ 9 → Plain (decimal n)
plain_decimal n few = let small : n < 2 ^ 64 = omega arith in record {
  some = decimal_nonempty n small;
  short = length-decimal-le 9 n (omega arith) few (omega arith);
  zero_alone = λ is.
      ⊎_elim
      (λ more. absurd (omega (arith, first_decimal n more small)))
      (λ none. ap length (decimal_digit n (omega arith)))
      (cases_lt 0 n);
}

-- behind the blanks of a spelled number stand its digits
pub spelled_behind : (width n : ℕ) → n < 2 ^ 64 → past_blanks (spelled width n) ≡ decimal n
spelled_behind width n small =
    past_front (width - length (decimal n)) (decimal n) (first_digit (decimal n) (decimal_nonempty n small) (digits_decimal own n small))

pub spelled_field : (width n : ℕ) → n < 10 ^ 9 → field_number (spelled width n) ≡ Some n
spelled_field width n few =
    let small : n < 2 ^ 64 = omega arith in
    let ds = decimal n in
    let all = digits_decimal own n small in
    ap plain_number (spelled_behind width n small)
    ∙ plain_is ds (plain_decimal n few)
    ∙ after_all 0 ds all
    ∙ ap Some (digits_value-decimal own n small)

option_spelled : (bs : List ℕ) (f : FieldFault) (o : Option ℕ) → field_number bs ≡ o → Spelled bs (ok_or o f)
option_spelled bs f None e = λ n small is. no_some (sym e ∙ ap field_number is ∙ spelled_field (length bs) n small)
option_spelled bs f (Some n) e = field_spelled bs n e

pub number_spelled : (bs : List ℕ) (col : ℕ) (r : Result ℕ FieldFault) → r ≡ number_in bs col → Spelled bs r
number_spelled bs col r e = subst (Spelled bs) (sym e) (option_spelled bs (record { cause = Number; column = col }) (field_number bs) refl)
