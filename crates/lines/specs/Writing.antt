-- How a line is written: one spelling for what it says. Assumes nothing.
use Rattle.std.specs.Prelude.{ℕ, ◌^◌, ◌<◌, List, [], ◌∷◌, ◌++◌, replicate, Some, None, Option}
use Rattle.strategies.specs.Names.{name_of, number_of}
use Rattle.strategies.specs.declared.marks.Sign.{Sign}
use Rattle.strategies.specs.declared.marks.Sign.TheVariants.{Plus, Minus}
use Rattle.lines.specs.declared.line.Line.{Line}
use Rattle.lines.specs.declared.line.Line.TheVariants.{Join, Leave, Give, Withdraw, Ask, Equip, Choose}
use Rattle.fields.specs.Spelling.{right_justified, spelled}

-- n blanks
abbrev pub blanks : ℕ → List ℕ
blanks n = replicate n 32

-- a number in five columns
abbrev pub five : ℕ → List ℕ
five n = spelled 5 n

-- a number in five columns, or blanks
abbrev pub five_or_blank : Option ℕ → List ℕ
five_or_blank (Some n) = five n
five_or_blank None = blanks 5

-- + or -
abbrev pub sign_byte : Sign → ℕ
sign_byte Plus = 43
sign_byte Minus = 45

-- the 18 bytes of a line: J 74, L 76, G 71, W 87, Q 81, E 69, S 83
abbrev pub written : Line → List ℕ
written (Join group member) = 74 ∷ (five group ++ (five member ++ blanks 7))
written (Leave group member) = 76 ∷ (five group ++ (five member ++ blanks 7))
written (Give g) = 71 ∷ (five g.account ++ (five g.item ++ (five g.right ++ (32 ∷ sign_byte g.sign ∷ []))))
written (Withdraw a) = 87 ∷ (five a.account ++ (five a.item ++ (five a.right ++ blanks 2)))
written (Ask a) = 81 ∷ (five a.account ++ (five a.item ++ (five a.right ++ blanks 2)))
written (Equip item first second) = 69 ∷ (five item ++ (five_or_blank first ++ (five_or_blank second ++ blanks 2)))
written (Choose s) = 83 ∷ (blanks 11 ++ right_justified 6 (name_of (number_of s)))

-- a number that five columns can hold
abbrev pub FitsFive : ℕ → Type 0
FitsFive n = n < 10 ^ 5

-- containers that a line can hold: no second without a first
abbrev pub ContainersFit : Option ℕ → Option ℕ → Type 0
ContainersFit None None = Unit {0}
ContainersFit None (Some n) = ⊥
ContainersFit (Some m) None = FitsFive m
ContainersFit (Some m) (Some n) = FitsFive m × FitsFive n

-- what a line can hold
abbrev pub Writable : Line → Type 0
Writable (Join group member) = FitsFive group × FitsFive member
Writable (Leave group member) = FitsFive group × FitsFive member
Writable (Give g) = FitsFive g.account × FitsFive g.item × FitsFive g.right
Writable (Withdraw a) = FitsFive a.account × FitsFive a.item × FitsFive a.right
Writable (Ask a) = FitsFive a.account × FitsFive a.item × FitsFive a.right
Writable (Equip item first second) = FitsFive item × ContainersFit first second
Writable (Choose s) = Unit {0}
