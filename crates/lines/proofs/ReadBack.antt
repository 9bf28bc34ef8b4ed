-- Each line that can be written is read back as what it says. Assumes nothing.
use Rattle.std.proofs.Common.{◌≡◌, ℕ, ◌+◌, eqb, List, [], ◌∷◌, ◌++◌, length, take, Ok, Err, Option, refl, ap, ◌∙◌, ap₂, arith, length-append}
use Rattle.std.proofs.lemmas.List.{take_all}
use Rattle.std.proofs.lemmas.Bool.{cond-true, eq-eqb}
use Rattle.strategies.specs.Names.{name_of, number_of}
use Rattle.strategies.specs.declared.strategy.Strategy.{Strategy}
use Rattle.model.specs.declared.access.Access.{Access}
use Rattle.model.specs.declared.grant.Grant.{Grant}
use Rattle.lines.specs.declared.line.Line.{Line}
use Rattle.lines.specs.declared.line.Line.TheVariants.{Join, Leave, Give, Withdraw, Ask, Equip, Choose}
use Rattle.fields.specs.Checks.{then, number_in, blanks_from, sign_in, name_in}
use Rattle.lines.specs.Lines.{at_columns, raised, access_alone_of, containers_of, command_of, line_of}
use Rattle.fields.specs.Spelling.{right_justified}
use Rattle.lines.specs.Writing.{blanks, five, five_or_blank, sign_byte, written, Writable, FitsFive, ContainersFit}
use Rattle.lines.specs.Laws.{OneSpelling}
use Rattle.fields.proofs.Blanks.{justified_long}
use Rattle.lines.proofs.Columns.{five_long, five_back, optional_long, sign_back}
use Rattle.lines.proofs.Containers.{containers_by, containers_back, first_fits, second_fits}
use Rattle.lines.proofs.Groups.{pair_back, access_back}
use Rattle.fields.proofs.NameFields.{name_short}
use Rattle.lines.proofs.OneStrategy.{name_back}
use Rattle.lines.proofs.Pieces.{first_at, second_at, third_at, last_at, behind_three}
use Rattle.lines.proofs.WrittenLines.{only_written}

-- a line of 18 bytes is read by its letter
by_letter : (c : ℕ) (X : List ℕ) → length X ≡ 17 → line_of (c ∷ X) ≡ command_of c X
by_letter c X long = cond-true (eqb (length X) 17) (command_of c X) (Err _) (eq-eqb (length X) 17 long)

long_three : (a b c tail : List ℕ) → length a ≡ 5 → length b ≡ 5 → length c ≡ 5 → length tail ≡ 2 → length (a ++ (b ++ (c ++ tail))) ≡ 17
long_three a b c tail la lb lc lt =
    omega (arith, length-append a (b ++ (c ++ tail)), length-append b (c ++ tail), length-append c tail)

long_pair : (a b : ℕ) → FitsFive a → FitsFive b → length (five a ++ (five b ++ blanks 7)) ≡ 17
long_pair a b fa fb =
    omega (arith, length-append (five a) (five b ++ blanks 7), length-append (five b) (blanks 7), five_long a fa, five_long b fb)

long_triple : (a b c x y : ℕ) → FitsFive a → FitsFive b → FitsFive c → length (five a ++ (five b ++ (five c ++ (x ∷ y ∷ [])))) ≡ 17
long_triple a b c x y fa fb fc = long_three (five a) (five b) (five c) (x ∷ y ∷ []) (five_long a fa) (five_long b fb) (five_long c fc) refl

-- the last column of a line with three numbers
sign_column : (a b c x y : ℕ) → FitsFive a → FitsFive b → FitsFive c → at_columns 18 18 (five a ++ (five b ++ (five c ++ (x ∷ y ∷ [])))) ≡ y ∷ []
sign_column a b c x y fa fb fc = last_at (five a) (five b) (five c) x y (five_long a fa) (five_long b fb) (five_long c fc)

give_back : (g : Grant) → FitsFive g.account → FitsFive g.item → FitsFive g.right → line_of (written (Give g)) ≡ Ok (Give g)
give_back g fa fb fc =
    let y = sign_byte g.sign in
    let X = five g.account ++ (five g.item ++ (five g.right ++ (32 ∷ y ∷ []))) in
    let sign : sign_in (at_columns 18 18 X) 18 ≡ Ok g.sign =
    ap (λ l. sign_in l 18) (sign_column g.account g.item g.right 32 y fa fb fc) ∙ sign_back g.sign 18 in
    by_letter 71 X (long_triple g.account g.item g.right 32 y fa fb fc)
    ∙ ap (λ r. raised (then r (λ t. then (sign_in (at_columns 18 18 X) 18) (λ s. Ok (Give (record { account = t.account; item = t.item; right = t.right; sign = s }))))))
    (access_back g.account g.item g.right y fa fb fc)
    ∙ ap (λ r. raised (then r (λ s. Ok (Give (record { account = g.account; item = g.item; right = g.right; sign = s }))))) sign

-- what W and Q share
alone_back : (a : Access) → FitsFive a.account → FitsFive a.item → FitsFive a.right → access_alone_of (five a.account ++ (five a.item ++ (five a.right ++ blanks 2))) ≡ Ok a
alone_back a fa fb fc =
    let X = five a.account ++ (five a.item ++ (five a.right ++ blanks 2)) in
    ap (λ r. then r (λ t. then (blanks_from 18 (at_columns 18 18 X)) (λ _. Ok t))) (access_back a.account a.item a.right 32 fa fb fc)
    ∙ ap (λ l. then (blanks_from 18 l) (λ _. Ok a)) (sign_column a.account a.item a.right 32 32 fa fb fc)

equip_back : (item : ℕ) (first second : Option ℕ) → FitsFive item → ContainersFit first second → line_of (written (Equip item first second)) ≡ Ok (Equip item first second)
equip_back item first second fi fit =
    let f = five_or_blank first in
    let s = five_or_blank second in
    let li = five_long item fi in
    let lf = optional_long first (first_fits first second fit) in
    let ls = optional_long second (second_fits first second fit) in
    let X = five item ++ (f ++ (s ++ blanks 2)) in
    let number : number_in (at_columns 2 6 X) 2 ≡ Ok item = ap (λ l. number_in l 2) (first_at (five item) (f ++ (s ++ blanks 2)) li) ∙ five_back item 2 fi in
    let both : containers_of X ≡ Ok (first, second) =
    ap₂ (λ (x y : List ℕ). containers_by x y) (second_at (five item) f (s ++ blanks 2) li lf) (third_at (five item) f s (blanks 2) li lf ls)
    ∙ containers_back first second fit in
    let blank : blanks_from 17 (at_columns 17 18 X) ≡ Ok tt =
    ap (λ l. blanks_from 17 (take 2 l)) (behind_three (five item) f s (blanks 2) li lf ls) in
    by_letter 69 X (long_three (five item) f s (blanks 2) li lf ls refl)
    ∙ ap (λ r. raised (then r (λ item. then (containers_of X) (λ cs. then (blanks_from 17 (at_columns 17 18 X)) (λ _. Ok (Equip item cs.0 cs.1)))))) number
    ∙ ap (λ r. raised (then r (λ cs. then (blanks_from 17 (at_columns 17 18 X)) (λ _. Ok (Equip item cs.0 cs.1))))) both
    ∙ ap (λ r. raised (then r (λ _. Ok (Equip item first second)))) blank

choose_back : (s : Strategy) → line_of (written (Choose s)) ≡ Ok (Choose s)
choose_back s =
    let name = right_justified 6 (name_of (number_of s)) in
    let six : length name ≡ 6 = justified_long 6 (name_of (number_of s)) (name_short (number_of s) s.below) in
    let read : name_in (take 6 name) 13 ≡ Ok s = ap (λ l. name_in l 13) (take_all 6 name (omega arith)) ∙ name_back s 6 13 in
    by_letter 83 (blanks 11 ++ name) (length-append (blanks 11) name ∙ ap (λ n. 11 + n) six)
    ∙ ap (λ r. raised (then r (λ s. Ok (Choose s)))) read

read_back : (l : Line) → Writable l → line_of (written l) ≡ Ok l
read_back (Join a b) h =
    by_letter 74 _ (long_pair a b h.0 h.1) ∙ ap (λ r. raised (then r (λ p. Ok (Join p.0 p.1)))) (pair_back a b h.0 h.1)
read_back (Leave a b) h =
    by_letter 76 _ (long_pair a b h.0 h.1) ∙ ap (λ r. raised (then r (λ p. Ok (Leave p.0 p.1)))) (pair_back a b h.0 h.1)
read_back (Give g) h = give_back g h.0 h.1 h.2
read_back (Withdraw a) h =
    by_letter 87 _ (long_triple a.account a.item a.right 32 32 h.0 h.1 h.2)
    ∙ ap (λ r. raised (then r (λ t. Ok (Withdraw t)))) (alone_back a h.0 h.1 h.2)
read_back (Ask a) h =
    by_letter 81 _ (long_triple a.account a.item a.right 32 32 h.0 h.1 h.2)
    ∙ ap (λ r. raised (then r (λ t. Ok (Ask t)))) (alone_back a h.0 h.1 h.2)
read_back (Equip item first second) h = equip_back item first second h.0 h.1
read_back (Choose s) h = choose_back s

pub one_spelling : OneSpelling
one_spelling = record { back = read_back; only = only_written }
