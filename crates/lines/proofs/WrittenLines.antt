-- A line that is read is the one spelling of what it says. Assumes nothing.
use Rattle.std.proofs.Common.{◌≡◌, ℕ, cond, eqb, List, [], ◌∷◌, ◌++◌, length, get_or, Ok, Err, Result, sym, ap, ◌∙◌, subst, ap₂, ⊎_elim, arith}
use Rattle.std.proofs.lemmas.Bool.{cases_Bool, cond-true, cond-false, eqb-true}
use Rattle.strategies.specs.Names.{name_of, number_of}
use Rattle.fields.specs.declared.faults.FieldFault.{FieldFault}
use Rattle.model.specs.declared.access.Access.{Access}
use Rattle.lines.specs.declared.faults.LineFault.{LineFault}
use Rattle.lines.specs.declared.line.Line.{Line}
use Rattle.lines.specs.declared.line.Line.TheVariants.{Join, Leave, Withdraw, Ask}
use Rattle.fields.specs.Checks.{number_in, blanks_from, sign_in, name_in}
use Rattle.lines.specs.Lines.{at_columns, raised, pair_of, access_of, access_alone_of, containers_of, join_of, leave_of, give_of, withdraw_of, ask_of, equip_of, choose_of, command_of, line_of}
use Rattle.fields.specs.Spelling.{right_justified}
use Rattle.lines.specs.Writing.{blanks, five, sign_byte, written, Writable, FitsFive}
use Rattle.fields.proofs.Blanks.{no_ok}
use Rattle.lines.proofs.Columns.{five_only, sign_only}
use Rattle.lines.proofs.Containers.{containers_only}
use Rattle.lines.proofs.Groups.{then_ok, ok_same, blank_columns, pair_only, access_only}
use Rattle.lines.proofs.OneStrategy.{name_only}
use Rattle.lines.proofs.Pieces.{wide, pieces_triple, pieces_name, one_byte}

-- the letter and the rest are the one spelling of the line
abbrev One : ℕ → List ℕ → Line → Type 0
One c X l = Writable l × (c ∷ X ≡ written l)

raised_ok : {A : Type 0} (r : Result A FieldFault) (x : A) → raised r ≡ Ok x → r ≡ Ok x
raised_ok (Ok y) x e = ap Ok (ok_same e)
raised_ok (Err f) x e = absurd (no_ok e)

join_one : (X : List ℕ) (l : Line) → length X ≡ 17 → raised (join_of X) ≡ Ok l → One 74 X l
join_one X l long e =
    let p = then_ok (pair_of X) (λ p. Ok (Join p.0 p.1)) l (raised_ok (join_of X) l e) in
    let told = pair_only X p.0 long p.1 in
    subst (One 74 X) (ok_same p.2) ((told.0, told.1), ap (λ x. 74 ∷ x) told.2)

leave_one : (X : List ℕ) (l : Line) → length X ≡ 17 → raised (leave_of X) ≡ Ok l → One 76 X l
leave_one X l long e =
    let p = then_ok (pair_of X) (λ p. Ok (Leave p.0 p.1)) l (raised_ok (leave_of X) l e) in
    let told = pair_only X p.0 long p.1 in
    subst (One 76 X) (ok_same p.2) ((told.0, told.1), ap (λ x. 76 ∷ x) told.2)

-- what W and Q share: an access and two blanks
alone_only : (X : List ℕ) (r : Access) → length X ≡ 17 → access_alone_of X ≡ Ok r
    → (FitsFive r.account × FitsFive r.item × FitsFive r.right) × (X ≡ five r.account ++ (five r.item ++ (five r.right ++ blanks 2)))
alone_only X r long e =
    let p = then_ok (access_of X) _ r e in
    let b = then_ok (blanks_from 18 (at_columns 18 18 X)) _ r p.2 in
    let told = access_only X p.0 long p.1 in
    let blank = blank_columns 18 1 (at_columns 18 18 X) (wide 16 1 X (omega arith)) b.1 in
    subst
    (λ (r : Access). (FitsFive r.account × FitsFive r.item × FitsFive r.right) × (X ≡ five r.account ++ (five r.item ++ (five r.right ++ blanks 2))))
    (ok_same b.2)
    ((told.0, told.1, told.2), told.3 ∙ ap (λ y. five p.0.account ++ (five p.0.item ++ (five p.0.right ++ (32 ∷ y)))) blank)

withdraw_one : (X : List ℕ) (l : Line) → length X ≡ 17 → raised (withdraw_of X) ≡ Ok l → One 87 X l
withdraw_one X l long e =
    let p = then_ok (access_alone_of X) (λ t. Ok (Withdraw t)) l (raised_ok (withdraw_of X) l e) in
    let told = alone_only X p.0 long p.1 in
    subst (One 87 X) (ok_same p.2) (told.0, ap (λ x. 87 ∷ x) told.1)

ask_one : (X : List ℕ) (l : Line) → length X ≡ 17 → raised (ask_of X) ≡ Ok l → One 81 X l
ask_one X l long e =
    let p = then_ok (access_alone_of X) (λ t. Ok (Ask t)) l (raised_ok (ask_of X) l e) in
    let told = alone_only X p.0 long p.1 in
    subst (One 81 X) (ok_same p.2) (told.0, ap (λ x. 81 ∷ x) told.1)

give_one : (X : List ℕ) (l : Line) → length X ≡ 17 → raised (give_of X) ≡ Ok l → One 71 X l
give_one X l long e =
    let p = then_ok (access_of X) _ l (raised_ok (give_of X) l e) in
    let r = p.0 in
    let s = then_ok (sign_in (at_columns 18 18 X) 18) _ l p.2 in
    let told = access_only X r long p.1 in
    let byte = one_byte (at_columns 18 18 X) (wide 16 1 X (omega arith)) in
    let sign = sign_only (get_or (at_columns 18 18 X) 0 0) 18 s.0 (ap (λ y. sign_in y 18) (sym byte) ∙ s.1) in
    let last : at_columns 18 18 X ≡ sign_byte s.0 ∷ [] = byte ∙ ap (λ y. y ∷ []) sign in
    subst (One 71 X) (ok_same s.2)
    ((told.0, told.1, told.2), ap (λ x. 71 ∷ x) (told.3 ∙ ap (λ y. five r.account ++ (five r.item ++ (five r.right ++ (32 ∷ y)))) last))

equip_one : (X : List ℕ) (l : Line) → length X ≡ 17 → raised (equip_of X) ≡ Ok l → One 69 X l
equip_one X l long e =
    let p = then_ok (number_in (at_columns 2 6 X) 2) _ l (raised_ok (equip_of X) l e) in
    let q = then_ok (containers_of X) _ l p.2 in
    let b = then_ok (blanks_from 17 (at_columns 17 18 X)) _ l q.2 in
    let item = five_only (at_columns 2 6 X) 2 p.0 (wide 0 5 X (omega arith)) p.1 in
    let told =
    containers_only (at_columns 7 11 X) (at_columns 12 16 X) q.0 (wide 5 5 X (omega arith)) (wide 10 5 X (omega arith)) q.1 in
    let blank = blank_columns 17 2 (at_columns 17 18 X) (wide 15 2 X (omega arith)) b.1 in
    subst (One 69 X) (ok_same b.2) (
      (item.0, told.0),
      ap (λ x. 69 ∷ x) (pieces_triple X long
          ∙ ap₂ (λ (x y : List ℕ). x ++ y) item.1 (ap₂ (λ (x y : List ℕ). x ++ y) told.1 (ap₂ (λ (x y : List ℕ). x ++ y) told.2 blank))),
    )

choose_one : (X : List ℕ) (l : Line) → length X ≡ 17 → raised (choose_of X) ≡ Ok l → One 83 X l
choose_one X l long e =
    let b = then_ok (blanks_from 2 (at_columns 2 12 X)) _ l (raised_ok (choose_of X) l e) in
    let s = then_ok (name_in (at_columns 13 18 X) 13) _ l b.2 in
    let blank = blank_columns 2 11 (at_columns 2 12 X) (wide 0 11 X (omega arith)) b.1 in
    let name : at_columns 13 18 X ≡ right_justified 6 (name_of (number_of s.0)) =
    name_only (at_columns 13 18 X) 13 s.0 s.1 ∙ ap (λ w. right_justified w (name_of (number_of s.0))) (wide 11 6 X (omega arith)) in
    subst (One 83 X) (ok_same s.2) (tt, ap (λ x. 83 ∷ x) (pieces_name X long ∙ ap₂ (λ (x y : List ℕ). x ++ y) blank name))

-- the line has this letter, or another
letter : {G : Type 0} (c k : ℕ) (A B : Result Line LineFault) (l : Line) → cond (eqb c k) A B ≡ Ok l → (c ≡ k → A ≡ Ok l → G) → (B ≡ Ok l → G) → G
letter c k A B l e this other =
    ⊎_elim
    (λ p. this (eqb-true c k p) (sym (cond-true (eqb c k) A B p) ∙ e))
    (λ p. other (sym (cond-false (eqb c k) A B p) ∙ e))
    (cases_Bool (eqb c k))

with_letter : (c k : ℕ) (X : List ℕ) (l : Line) → c ≡ k → One k X l → One c X l
with_letter c k X l is told = (told.0, ap (λ c. c ∷ X) is ∙ told.1)

command_one : (c : ℕ) (X : List ℕ) (l : Line) → length X ≡ 17 → command_of c X ≡ Ok l → One c X l
command_one c X l long e =
    letter c 74 _ _ l e (λ is r. with_letter c 74 X l is (join_one X l long r)) (λ e.
    letter c 76 _ _ l e (λ is r. with_letter c 76 X l is (leave_one X l long r)) (λ e.
    letter c 71 _ _ l e (λ is r. with_letter c 71 X l is (give_one X l long r)) (λ e.
    letter c 87 _ _ l e (λ is r. with_letter c 87 X l is (withdraw_one X l long r)) (λ e.
    letter c 81 _ _ l e (λ is r. with_letter c 81 X l is (ask_one X l long r)) (λ e.
    letter c 69 _ _ l e (λ is r. with_letter c 69 X l is (equip_one X l long r)) (λ e.
    letter c 83 _ _ l e (λ is r. with_letter c 83 X l is (choose_one X l long r)) (λ e.
    absurd (no_ok e))))))))

pub only_written : (bs : List ℕ) (l : Line) → line_of bs ≡ Ok l → Writable l × (bs ≡ written l)
only_written [] l e = absurd (no_ok e)
only_written (c ∷ X) l e =
    ⊎_elim
    (λ p. command_one c X l (eqb-true (length X) 17 p) (sym (cond-true (eqb (length X) 17) (command_of c X) (Err _) p) ∙ e))
    (λ p. absurd (no_ok (sym (cond-false (eqb (length X) 17) (command_of c X) (Err _) p) ∙ e)))
    (cases_Bool (eqb (length X) 17))
