-- Fields of five and six columns: read exactly if they are spelled so. Assumes nothing.
use Rattle.std.proofs.Common.{◌≡◌, ℕ, ◌<◌, ◌≤◌, true, false, cond, eqb, List, [], ◌∷◌, length, Some, None, Ok, Err, decimal, Option, Result, sym, refl, ap, ◌∙◌, subst, ⊎_elim, arith}
use Rattle.std.specs.Option.{ok_or}
use Rattle.std.proofs.lemmas.Fmt.{decimal_nonempty, length-decimal-le}
use Rattle.std.proofs.lemmas.Bool.{cases_Bool, cond-true, cond-false, eqb-true, ne_eqb}
use Rattle.strategies.specs.declared.marks.Sign.{Sign}
use Rattle.strategies.specs.declared.marks.Sign.TheVariants.{Plus, Minus}
use Rattle.fields.specs.declared.faults.FieldFault.{FieldFault}
use Rattle.fields.specs.declared.faults.FieldCause.TheVariants as cause
use Rattle.fields.specs.Fields.{past_blanks, field_number}
use Rattle.fields.specs.Checks.{then, number_in, is_blank, optional_in, sign_at}
use Rattle.fields.specs.Spelling.{right_justified, spelled}
use Rattle.lines.specs.Writing.{blanks, five, five_or_blank, sign_byte, FitsFive}
use Rattle.fields.proofs.Blanks.{no_ok, justified_past, justified_long}
use Rattle.fields.proofs.Spellings.{field_spelled, field_small, spelled_behind, spelled_field}

-- what was found is some
found_some : (o : Option ℕ) (f : FieldFault) (n : ℕ) → ok_or o f ≡ Ok n → o ≡ Some n
found_some None f n e = absurd (no_ok e)
found_some (Some m) f n e = cc

-- a number in five columns
pub five_only : (bs : List ℕ) (column n : ℕ) → length bs ≡ 5 → number_in bs column ≡ Ok n → FitsFive n × (bs ≡ five n)
five_only bs column n long e =
    let some = found_some (field_number bs) _ n e in
    let short : length bs ≤ 5 = omega arith in
    (field_small bs n 5 some short, (field_spelled bs n some).1 ∙ ap (λ w. spelled w n) long)

pub five_long : (n : ℕ) → FitsFive n → length (five n) ≡ 5
five_long n small = justified_long 5 (decimal n) (length-decimal-le 5 n (omega arith) small (omega arith))

pub five_back : (n column : ℕ) → FitsFive n → number_in (five n) column ≡ Ok n
five_back n column small =
    ap (λ o. ok_or o (record { cause = cause.Number; column = column })) (spelled_field 5 n (omega arith))

-- a field with nothing but blanks
empty : (l : List ℕ) → length l ≡ 0 → l ≡ []
empty [] e = refl
empty (c ∷ cs) e = absurd (omega arith)

pub blank_only : (bs : List ℕ) → length bs ≡ 5 → is_blank bs ≡ true → bs ≡ blanks 5
blank_only bs long e =
    justified_past bs ∙ ap (right_justified (length bs)) (empty (past_blanks bs) (eqb-true (length (past_blanks bs)) 0 e)) ∙ ap (λ w. right_justified w []) long

-- a container that may be left out
abbrev pub FitsOrBlank : Option ℕ → Type 0
FitsOrBlank None = Unit {0}
FitsOrBlank (Some n) = FitsFive n

some_only : (r : Result ℕ FieldFault) (o : Option ℕ) → then r (λ n. Ok (Some n)) ≡ Ok o → (n : ℕ) × (r ≡ Ok n) × (o ≡ Some n)
some_only (Ok n) o e = (n, refl, cc)
some_only (Err f) o e = absurd (no_ok e)

pub optional_only : (bs : List ℕ) (column : ℕ) (o : Option ℕ) → length bs ≡ 5 → optional_in bs column ≡ Ok o → FitsOrBlank o × (bs ≡ five_or_blank o)
optional_only bs column o long e =
    ⊎_elim
    (λ p.
    let is : None ≡ o = ok_same (sym (cond-true (is_blank bs) (Ok None) _ p) ∙ e) in
    subst (λ o. FitsOrBlank o × (bs ≡ five_or_blank o)) is (tt, blank_only bs long p))
    (λ p.
    let some = some_only (number_in bs column) o (sym (cond-false (is_blank bs) (Ok None) _ p) ∙ e) in
    subst (λ o. FitsOrBlank o × (bs ≡ five_or_blank o)) (sym some.2) (five_only bs column some.0 long some.1))
    (cases_Bool (is_blank bs))
  where
    ok_same : {x y : Option ℕ} → ◌≡◌ {A = Result (Option ℕ) FieldFault} (Ok x) (Ok y) → x ≡ y
    ok_same {x} {y} q = cc

filled_five : (n : ℕ) → FitsFive n → is_blank (five n) ≡ false
filled_five n small =
    let digits : 0 < length (decimal n) = decimal_nonempty n (omega arith) in
    ne_eqb (length (past_blanks (five n))) 0 (λ z. omega (arith, sym (ap length (spelled_behind 5 n (omega arith))) ∙ z))

pub optional_back : (o : Option ℕ) (column : ℕ) → FitsOrBlank o → optional_in (five_or_blank o) column ≡ Ok o
optional_back None column h = refl
optional_back (Some n) column h =
    cond-false (is_blank (five n)) (Ok None) _ (filled_five n h) ∙ ap (λ r. then r (λ n. Ok (Some n))) (five_back n column h)

pub optional_long : (o : Option ℕ) → FitsOrBlank o → length (five_or_blank o) ≡ 5
optional_long None h = refl
optional_long (Some n) h = five_long n h

-- the sign
pub sign_only : (c column : ℕ) (s : Sign) → sign_at c column ≡ Ok s → c ≡ sign_byte s
sign_only c column s e =
    ⊎_elim
    (λ p.
    let is : Plus ≡ s = ok_same (sym (cond-true (eqb c 43) (Ok Plus) _ p) ∙ e) in
    eqb-true c 43 p ∙ ap sign_byte is)
    (λ p. minus p (sym (cond-false (eqb c 43) (Ok Plus) _ p) ∙ e))
    (cases_Bool (eqb c 43))
  where
    ok_same : {x y : Sign} → ◌≡◌ {A = Result Sign FieldFault} (Ok x) (Ok y) → x ≡ y
    ok_same {x} {y} q = cc

    minus : eqb c 43 ≡ false → cond {A = Result Sign FieldFault} (eqb c 45) (Ok Minus) (Err (record { cause = cause.Sign; column = column })) ≡ Ok s → c ≡ sign_byte s
    minus p q =
        ⊎_elim
        (λ m.
        let is : Minus ≡ s = ok_same (sym (cond-true (eqb c 45) (Ok Minus) _ m) ∙ q) in
        eqb-true c 45 m ∙ ap sign_byte is)
        (λ m. absurd (no_ok (sym (cond-false (eqb c 45) (Ok Minus) _ m) ∙ q)))
        (cases_Bool (eqb c 45))

pub sign_back : (s : Sign) (column : ℕ) → sign_at (sign_byte s) column ≡ Ok s
sign_back Plus column = refl
sign_back Minus column = refl
