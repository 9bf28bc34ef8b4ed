-- Blanks: one step over them, where the steps end, and fields as blanks and what stands behind. Assumes nothing.
use Rattle.std.proofs.Common.{◌≡◌, ℕ, zero, suc, ◌+◌, ◌-◌, ◌<◌, ◌≤◌, eqb, List, [], ◌∷◌, ◌++◌, length, get_or, drop, replicate, Ok, Err, Result, sym, refl, ap, ◌∙◌, subst, ap₂, ⊎_elim, arith, length-append}
use lib.ListN.{length-replicate}
use Rattle.std.proofs.lemmas.Bool.{eq-eqb, ne_eqb, eqb-true, eqb-false, cond-true, cond-false, cases_Bool}
use Rattle.fields.specs.declared.faults.FieldCause.TheVariants.{Blank}
use Rattle.fields.specs.declared.faults.FieldFault.{FieldFault}
use Rattle.fields.specs.Fields.{past_blanks}
use Rattle.fields.specs.Checks.{blanks_from, fault_of}
use Rattle.fields.specs.Spelling.{right_justified, FirstFilled}

pub no_ok : {A E : Type 0} {x : A} {f : E} → ◌≡◌ {A = Result A E} (Err f) (Ok x) → ⊥
no_ok {x} {f} e = let z : ◌≡◌ {A = ℕ} 0 1 = cc in omega arith

-- the first n bytes of xs are blanks, and no byte more
pub record Front (xs : List ℕ) (n : ℕ) : Type 0 where
  pub within : n ≤ length xs
  pub before : (k : ℕ) → k < n → get_or xs k 0 ≡ 32
  pub found : n < length xs → get_or xs n 0 ≡ 32 → ⊥

one_less : (x n : ℕ) (xs : List ℕ) → Front (x ∷ xs) (suc n) → Front xs n
one_less x n xs e = record { within = omega (arith, e.within); before = λ k l. e.before (suc k) (omega arith); found = λ l. e.found (omega arith) }

pub past_is : (xs : List ℕ) (n : ℕ) → Front xs n → drop n xs ≡ past_blanks xs
past_is [] zero e = refl
past_is [] (suc n) e = absurd (omega (arith, e.within))
past_is (x ∷ xs) zero e = sym (cond-false (eqb x 32) (past_blanks xs) (x ∷ xs) (ne_eqb x 32 (e.found (omega arith))))
past_is (x ∷ xs) (suc n) e =
    past_is xs n (one_less x n xs e) ∙ sym (cond-true (eqb x 32) (past_blanks xs) (x ∷ xs) (eq-eqb x 32 (e.before 0 (omega arith))))

-- the columns of a field are refused at the first that is not blank, or pass
pub filled_is : (column n : ℕ) (xs : List ℕ) → Front xs n → n < length xs → Err (fault_of Blank (column + n)) ≡ blanks_from column xs
filled_is column n [] e l = absurd (omega arith)
filled_is column zero (x ∷ xs) e l =
    let here : column + 0 ≡ column = omega arith in
    ap (λ c. Err (fault_of Blank c)) here ∙ sym (cond-false (eqb x 32) _ _ (ne_eqb x 32 (e.found l)))
filled_is column (suc n) (x ∷ xs) e l =
    let further : column + suc n ≡ column + 1 + n = omega arith in
    ap (λ c. Err (fault_of Blank c)) further
    ∙ filled_is (column + 1) n xs (one_less x n xs e) (omega arith)
    ∙ sym (cond-true (eqb x 32) _ _ (eq-eqb x 32 (e.before 0 (omega arith))))

pub blank_is : (column n : ℕ) (xs : List ℕ) → Front xs n → length xs ≤ n → Ok tt ≡ blanks_from column xs
blank_is column n [] e l = refl
blank_is column zero (x ∷ xs) e l = absurd (omega arith)
blank_is column (suc n) (x ∷ xs) e l =
    blank_is (column + 1) n xs (one_less x n xs e) (omega arith) ∙ sym (cond-true (eqb x 32) _ _ (eq-eqb x 32 (e.before 0 (omega arith))))

-- a field is blanks, and what stands behind them
blanks_front : (bs : List ℕ) → (k : ℕ) × (bs ≡ replicate k 32 ++ past_blanks bs)
blanks_front [] = (0, refl)
blanks_front (c ∷ cs) =
    ⊎_elim
    (λ p.
    let rest = blanks_front cs in (
      suc rest.0,
      ap₂ (λ (x : ℕ) (xs : List ℕ). x ∷ xs) (eqb-true c 32 p) rest.1
          ∙ ap (λ (d : List ℕ). 32 ∷ (replicate rest.0 32 ++ d)) (sym (cond-true (eqb c 32) (past_blanks cs) (c ∷ cs) p)),
    ))
    (λ p. (0, sym (cond-false (eqb c 32) (past_blanks cs) (c ∷ cs) p)))
    (cases_Bool (eqb c 32))

-- blanks in front of what begins with none are left out
pub past_front : (k : ℕ) (ds : List ℕ) → 32 < get_or ds 0 0 → past_blanks (replicate k 32 ++ ds) ≡ ds
past_front zero [] h = refl
past_front zero (c ∷ cs) h = cond-false (eqb c 32) (past_blanks cs) (c ∷ cs) (ne_eqb c 32 (omega arith))
past_front (suc k) ds h = past_front k ds h

pub past_shorter : (bs : List ℕ) → length (past_blanks bs) ≤ length bs
past_shorter bs = let front = blanks_front bs in omega (arith, ap length front.1 ∙ length-append (replicate front.0 32) (past_blanks bs))

-- a field is what stands behind its blanks, right-justified
pub justified_past : (bs : List ℕ) → bs ≡ right_justified (length bs) (past_blanks bs)
justified_past bs =
    let front = blanks_front bs in
    let long : length bs ≡ front.0 + length (past_blanks bs) = ap length front.1 ∙ simp (length-append, length-replicate) in
    let width : front.0 ≡ length bs - length (past_blanks bs) = omega arith in
    front.1 ∙ ap (λ k. replicate k 32 ++ past_blanks bs) width

-- what fits its width fills it
pub justified_long : (width : ℕ) (l : List ℕ) → length l ≤ width → length (right_justified width l) ≡ width
justified_long width l short = simp (length-append, length-replicate) (omega arith)

-- columns that pass as blank are
pub blanks_only : (column : ℕ) (bs : List ℕ) → blanks_from column bs ≡ Ok tt → bs ≡ replicate (length bs) 32
blanks_only column [] e = refl
blanks_only column (c ∷ cs) e =
    ⊎_elim
    (λ p.
    ap₂ (λ (x : ℕ) (xs : List ℕ). x ∷ xs) (eqb-true c 32 p)
    (blanks_only (column + 1) cs (sym (cond-true (eqb c 32) (blanks_from (column + 1) cs) (Err _) p) ∙ e)))
    (λ p. absurd (no_ok (sym (cond-false (eqb c 32) (blanks_from (column + 1) cs) (Err _) p) ∙ e)))
    (cases_Bool (eqb c 32))

-- one blank more in front
one_blank : (c column : ℕ) (cs : List ℕ) (r : Result (Unit {0}) FieldFault) → c ≡ 32 → FirstFilled (column + 1) cs r → FirstFilled column (c ∷ cs) r
one_blank c column cs (Ok u) is h = ap₂ (λ (x : ℕ) (xs : List ℕ). x ∷ xs) is h
one_blank c column cs (Err f) is h =
    let further : column + 1 + h.0 ≡ column + suc h.0 = omega arith in (
      suc h.0,
      omega (arith, h.1),
      h.2 ∙ ap (fault_of Blank) further,
      ap₂ (λ (x : ℕ) (xs : List ℕ). x ∷ xs) is h.3,
      h.4,
    )

-- a field passes as blank if it is, and is refused at its first byte that is not
pub first_filled : (column : ℕ) (bs : List ℕ) → FirstFilled column bs (blanks_from column bs)
first_filled column [] = refl
first_filled column (c ∷ cs) =
    ⊎_elim
    (λ p.
    subst (FirstFilled column (c ∷ cs)) (sym (cond-true (eqb c 32) (blanks_from (column + 1) cs) (Err (fault_of Blank column)) p))
    (one_blank c column cs (blanks_from (column + 1) cs) (eqb-true c 32 p) (first_filled (column + 1) cs)))
    (λ p.
    let here : column ≡ column + 0 = omega arith in
    subst (FirstFilled column (c ∷ cs)) (sym (cond-false (eqb c 32) (blanks_from (column + 1) cs) (Err (fault_of Blank column)) p))
    (0, omega arith, ap (fault_of Blank) here, refl, eqb-false c 32 p))
    (cases_Bool (eqb c 32))

pub told_filled : (column : ℕ) (bs : List ℕ) (r : Result (Unit {0}) FieldFault) → r ≡ blanks_from column bs → FirstFilled column bs r
told_filled column bs r e = subst (FirstFilled column bs) (sym e) (first_filled column bs)
