-- Two numbers, an access: read exactly if they are written so. Assumes nothing.
use Rattle.std.proofs.Common.{◌≡◌, ℕ, List, [], ◌∷◌, ◌++◌, length, take, Ok, Err, Result, refl, ap, ◌∙◌, subst, ap₂, arith}
use Rattle.fields.specs.Checks.{then, number_in, blanks_from}
use Rattle.model.specs.declared.access.Access.{Access}
use Rattle.lines.specs.Lines.{at_columns, pair_of, access_of}
use Rattle.lines.specs.Writing.{blanks, five, FitsFive}
use Rattle.fields.proofs.Blanks.{no_ok, blanks_only}
use Rattle.lines.proofs.Columns.{five_only, five_long, five_back}
use Rattle.lines.proofs.Pieces.{wide, pieces_pair, pieces_triple, pieces_two, first_at, second_at, third_at, behind_two, behind_three}

-- what was read before the rest could be
pub then_ok : {A B E : Type 0} (r : Result A E) (f : A → Result B E) (y : B) → then r f ≡ Ok y → (x : A) × (r ≡ Ok x) × (f x ≡ Ok y)
then_ok (Ok x) f y e = (x, refl, e)
then_ok (Err d) f y e = absurd (no_ok e)

pub ok_same : {A E : Type 0} {x y : A} → ◌≡◌ {A = Result A E} (Ok x) (Ok y) → x ≡ y
ok_same {x} {y} e = cc

-- columns that pass as blank, in their width
pub blank_columns : (column width : ℕ) (bs : List ℕ) → length bs ≡ width → blanks_from column bs ≡ Ok tt → bs ≡ blanks width
blank_columns column width bs long e = blanks_only column bs e ∙ ap blanks long

pub pair_only : (X : List ℕ) (r : ℕ × ℕ) → length X ≡ 17 → pair_of X ≡ Ok r → FitsFive r.0 × FitsFive r.1 × (X ≡ five r.0 ++ (five r.1 ++ blanks 7))
pair_only X r long e =
    let p = then_ok (number_in (at_columns 2 6 X) 2) _ r e in
    let q = then_ok (number_in (at_columns 7 11 X) 7) _ r p.2 in
    let b = then_ok (blanks_from 12 (at_columns 12 18 X)) _ r q.2 in
    let first = five_only (at_columns 2 6 X) 2 p.0 (wide 0 5 X (omega arith)) p.1 in
    let second = five_only (at_columns 7 11 X) 7 q.0 (wide 5 5 X (omega arith)) q.1 in
    let blank = blank_columns 12 7 (at_columns 12 18 X) (wide 10 7 X (omega arith)) b.1 in
    subst (λ (r : ℕ × ℕ). FitsFive r.0 × FitsFive r.1 × (X ≡ five r.0 ++ (five r.1 ++ blanks 7)))
    (ok_same b.2)
    (first.0, second.0, pieces_pair X long ∙ ap₂ (λ (x y : List ℕ). x ++ y) first.1 (ap₂ (λ (x y : List ℕ). x ++ y) second.1 blank))

pub pair_back : (a b : ℕ) → FitsFive a → FitsFive b → pair_of (five a ++ (five b ++ blanks 7)) ≡ Ok (a, b)
pair_back a b fa fb =
    let X = five a ++ (five b ++ blanks 7) in
    let first : number_in (at_columns 2 6 X) 2 ≡ Ok a =
    ap (λ l. number_in l 2) (first_at (five a) (five b ++ blanks 7) (five_long a fa)) ∙ five_back a 2 fa in
    let second : number_in (at_columns 7 11 X) 7 ≡ Ok b =
    ap (λ l. number_in l 7) (second_at (five a) (five b) (blanks 7) (five_long a fa) (five_long b fb)) ∙ five_back b 7 fb in
    let blank : blanks_from 12 (at_columns 12 18 X) ≡ Ok tt =
    ap (λ l. blanks_from 12 (take 7 l)) (behind_two (five a) (five b) (blanks 7) (five_long a fa) (five_long b fb)) in
    ap (λ r. then r (λ a. then (number_in (at_columns 7 11 X) 7) (λ b. then (blanks_from 12 (at_columns 12 18 X)) (λ _. Ok (a, b))))) first
    ∙ ap (λ r. then r (λ b. then (blanks_from 12 (at_columns 12 18 X)) (λ _. Ok (a, b)))) second
    ∙ ap (λ r. then r (λ _. Ok (a, b))) blank

pub access_only : (X : List ℕ) (r : Access) → length X ≡ 17 → access_of X ≡ Ok r
    → FitsFive r.account × FitsFive r.item × FitsFive r.right × (X ≡ five r.account ++ (five r.item ++ (five r.right ++ (32 ∷ at_columns 18 18 X))))
access_only X r long e =
    let p = then_ok (number_in (at_columns 2 6 X) 2) _ r e in
    let q = then_ok (number_in (at_columns 7 11 X) 7) _ r p.2 in
    let t = then_ok (number_in (at_columns 12 16 X) 12) _ r q.2 in
    let b = then_ok (blanks_from 17 (at_columns 17 17 X)) _ r t.2 in
    let first = five_only (at_columns 2 6 X) 2 p.0 (wide 0 5 X (omega arith)) p.1 in
    let second = five_only (at_columns 7 11 X) 7 q.0 (wide 5 5 X (omega arith)) q.1 in
    let third = five_only (at_columns 12 16 X) 12 t.0 (wide 10 5 X (omega arith)) t.1 in
    let blank = blank_columns 17 1 (at_columns 17 17 X) (wide 15 1 X (omega arith)) b.1 in
    let two : at_columns 17 18 X ≡ 32 ∷ at_columns 18 18 X = pieces_two X long ∙ ap (λ l. l ++ at_columns 18 18 X) blank in
    subst
    (λ (r : Access). FitsFive r.account × FitsFive r.item × FitsFive r.right × (X ≡ five r.account ++ (five r.item ++ (five r.right ++ (32 ∷ at_columns 18 18 X)))))
    (ok_same b.2) (
      first.0,
      second.0,
      third.0,
      pieces_triple X long
          ∙ ap₂ (λ (x y : List ℕ). x ++ y) first.1 (ap₂ (λ (x y : List ℕ). x ++ y) second.1 (ap₂ (λ (x y : List ℕ). x ++ y) third.1 two)),
    )

pub access_back : (a b c y : ℕ) → FitsFive a → FitsFive b → FitsFive c → access_of (five a ++ (five b ++ (five c ++ (32 ∷ y ∷ [])))) ≡ Ok (record { account = a; item = b; right = c })
access_back a b c y fa fb fc =
    let la = five_long a fa in
    let lb = five_long b fb in
    let lc = five_long c fc in
    let X = five a ++ (five b ++ (five c ++ (32 ∷ y ∷ []))) in
    let first : number_in (at_columns 2 6 X) 2 ≡ Ok a = ap (λ l. number_in l 2) (first_at (five a) _ la) ∙ five_back a 2 fa in
    let second : number_in (at_columns 7 11 X) 7 ≡ Ok b = ap (λ l. number_in l 7) (second_at (five a) (five b) _ la lb) ∙ five_back b 7 fb in
    let third : number_in (at_columns 12 16 X) 12 ≡ Ok c =
    ap (λ l. number_in l 12) (third_at (five a) (five b) (five c) _ la lb lc) ∙ five_back c 12 fc in
    let blank : blanks_from 17 (at_columns 17 17 X) ≡ Ok tt =
    ap (λ l. blanks_from 17 (take 1 l)) (behind_three (five a) (five b) (five c) (32 ∷ y ∷ []) la lb lc) in
    ap (λ r. then r (λ a. then (number_in (at_columns 7 11 X) 7) (λ b. then (number_in (at_columns 12 16 X) 12) (λ c. then (blanks_from 17 (at_columns 17 17 X)) (λ _. Ok (record { account = a; item = b; right = c })))))) first
    ∙ ap (λ r. then r (λ b. then (number_in (at_columns 12 16 X) 12) (λ c. then (blanks_from 17 (at_columns 17 17 X)) (λ _. Ok (record { account = a; item = b; right = c }))))) second
    ∙ ap (λ r. then r (λ c. then (blanks_from 17 (at_columns 17 17 X)) (λ _. Ok (record { account = a; item = b; right = c })))) third
    ∙ ap (λ r. then r (λ _. Ok (record { account = a; item = b; right = c }))) blank
