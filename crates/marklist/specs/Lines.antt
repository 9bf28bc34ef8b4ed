-- The lines that write a mark: the mark, a blank and a distance from 0 to 14. Assumes nothing.
use Rattle.std.specs.Prelude.{ℕ, ◌-◌, cond, ◌&&◌, List, [], ◌∷◌, Some, None, Ok, Err, Option, Result, ◌==◌, nat_le}
use Rattle.strategies.specs.declared.marks.Sign.TheVariants.{Plus, Minus}
use Rattle.strategies.specs.declared.marks.Mark.{Mark}
use Rattle.strategies.specs.declared.marks.Mark.TheVariants.{Signed, Default}
use Rattle.strategies.specs.declared.marks.Arrival.{Arrival}
use Rattle.marklist.specs.declared.faults.MarkFault.{MarkFault}
use Rattle.marklist.specs.declared.faults.MarkFault.TheVariants.{NoMark, NoBlank, NoDistance}

-- +, - or d
abbrev pub letter_mark : ℕ → Option Mark
letter_mark c = cond (c == 43) (Some (Signed Plus)) (cond (c == 45) (Some (Signed Minus)) (cond (c == 100) (Some Default) None))

-- a digit, or a 1 and a digit up to 4
abbrev pub distance_in : List ℕ → Option ℕ
distance_in [] = None
distance_in (c ∷ []) = cond (nat_le 48 c && nat_le c 57) (Some (c - 48)) None
distance_in (c ∷ d ∷ []) = cond (c == 49 && (nat_le 48 d && nat_le d 52)) (Some (d - 38)) None
distance_in (c ∷ d ∷ e ∷ es) = None

abbrev pub at_distance : Mark → Option ℕ → Result Arrival MarkFault
at_distance m None = Err NoDistance
at_distance m (Some d) = Ok (record { mark = m; distance = d })

abbrev pub behind_mark : Option Mark → List ℕ → Result Arrival MarkFault
behind_mark None rest = Err NoMark
behind_mark (Some m) [] = Err NoBlank
behind_mark (Some m) (c ∷ cs) = cond (c == 32) (at_distance m (distance_in cs)) (Err NoBlank)

-- the arrival that a line writes
abbrev pub arrival_in : List ℕ → Result Arrival MarkFault
arrival_in [] = Err NoMark
arrival_in (c ∷ cs) = behind_mark (letter_mark c) cs
