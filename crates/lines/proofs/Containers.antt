-- An item's containers: read exactly if they are written so. Assumes nothing.
use Rattle.std.proofs.Common.{◌≡◌, ℕ, Bool, true, false, cond, not, ◌&&◌, List, length, is_some, Some, None, Ok, Err, Option, Result, sym, refl, ap, ◌∙◌, subst}
use Rattle.std.proofs.lemmas.Bool.{cond-true}
use Rattle.fields.specs.declared.faults.FieldFault.{FieldFault}
use Rattle.fields.specs.declared.faults.FieldCause.TheVariants.{Number}
use Rattle.fields.specs.Checks.{then, number_in, is_blank, optional_in}
use Rattle.lines.specs.Writing.{five_or_blank, ContainersFit}
use Rattle.fields.proofs.Blanks.{no_ok}
use Rattle.lines.proofs.Columns.{blank_only, FitsOrBlank, optional_only, optional_back}
use Rattle.lines.proofs.Groups.{then_ok, ok_same}

-- what is read behind the first container
abbrev pub behind_first : Option ℕ → List ℕ → Result (Option ℕ × Option ℕ) FieldFault
behind_first a s =
    cond (not (is_some a) && not (is_blank s)) (Err (record { cause = Number; column = 7 }))
    (then (optional_in s 12) (λ b. Ok (a, b)))

-- what the two fields of containers say
abbrev pub containers_by : List ℕ → List ℕ → Result (Option ℕ × Option ℕ) FieldFault
containers_by f s = then (optional_in f 7) (λ a. behind_first a s)

-- behind a first that is left out, where the second is blank or not
abbrev past : Bool → List ℕ → Result (Option ℕ × Option ℕ) FieldFault
past t s = cond (not t) (Err (record { cause = Number; column = 7 })) (then (optional_in s 12) (λ b. Ok (None, b)))

behind_only : (a : Option ℕ) (s : List ℕ) (r : Option ℕ × Option ℕ) → FitsOrBlank a → length s ≡ 5 → behind_first a s ≡ Ok r → (r.0 ≡ a) × ContainersFit a r.1 × (s ≡ five_or_blank r.1)
behind_only (Some m) s r fits long e =
    let p = then_ok (optional_in s 12) _ r e in
    let second = optional_only s 12 p.0 long p.1 in
    subst (λ (r : Option ℕ × Option ℕ). (r.0 ≡ Some m) × ContainersFit (Some m) r.1 × (s ≡ five_or_blank r.1))
    (ok_same p.2)
    (refl, both p.0 second.0, second.1)
  where
    both : (b : Option ℕ) → FitsOrBlank b → ContainersFit (Some m) b
    both None h = fits
    both (Some n) h = (fits, h)
behind_only None s r fits long e = by (is_blank s) refl
  where
    by : (t : Bool) → is_blank s ≡ t → (r.0 ≡ None) × ContainersFit None r.1 × (s ≡ five_or_blank r.1)
    by false t = absurd (no_ok (sym (ap (λ t. past t s) t) ∙ e))
    by true t =
        let passed : then (optional_in s 12) (λ b. Ok (None, b)) ≡ Ok r =
        sym (ap (λ t. past t s) t) ∙ e in
        let left : optional_in s 12 ≡ Ok None = cond-true (is_blank s) (Ok None) (then (number_in s 12) (λ n. Ok (Some n))) t in
        let none : ◌≡◌ {A = Result (Option ℕ × Option ℕ) FieldFault} (Ok (None, None)) (Ok r) = sym (ap (λ o. then o (λ b. Ok (None, b))) left) ∙ passed in
        subst (λ (r : Option ℕ × Option ℕ). (r.0 ≡ None) × ContainersFit None r.1 × (s ≡ five_or_blank r.1))
        (ok_same none)
        (refl, tt, blank_only s long t)

pub containers_only : (f s : List ℕ) (r : Option ℕ × Option ℕ) → length f ≡ 5 → length s ≡ 5 → containers_by f s ≡ Ok r
    → ContainersFit r.0 r.1 × (f ≡ five_or_blank r.0) × (s ≡ five_or_blank r.1)
containers_only f s r long-f long-s e =
    let p = then_ok (optional_in f 7) (λ a. behind_first a s) r e in
    let first = optional_only f 7 p.0 long-f p.1 in
    let more = behind_only p.0 s r first.0 long-s p.2 in
    (subst (λ a. ContainersFit a r.1) (sym more.0) more.1, first.1 ∙ ap five_or_blank (sym more.0), more.2)

pub first_fits : (a b : Option ℕ) → ContainersFit a b → FitsOrBlank a
first_fits None None h = tt
first_fits None (Some n) h = absurd h
first_fits (Some m) None h = h
first_fits (Some m) (Some n) h = h.0

pub second_fits : (a b : Option ℕ) → ContainersFit a b → FitsOrBlank b
second_fits None None h = tt
second_fits None (Some n) h = absurd h
second_fits (Some m) None h = tt
second_fits (Some m) (Some n) h = h.1

behind_back : (a b : Option ℕ) → ContainersFit a b → behind_first a (five_or_blank b) ≡ Ok (a, b)
behind_back None None h = refl
behind_back None (Some n) h = absurd h
behind_back (Some m) b h = ap (λ o. then o (λ b. Ok (Some m, b))) (optional_back b 12 (second_fits (Some m) b h))

pub containers_back : (a b : Option ℕ) → ContainersFit a b → containers_by (five_or_blank a) (five_or_blank b) ≡ Ok (a, b)
containers_back a b h =
    ap (λ o. then o (λ a. behind_first a (five_or_blank b))) (optional_back a 7 (first_fits a b h)) ∙ behind_back a b h
