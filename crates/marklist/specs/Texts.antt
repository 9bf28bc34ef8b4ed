-- The marks that a text writes, one a line. Assumes nothing.
use Rattle.std.specs.Prelude.{◌≡◌, ℕ, ◌+◌, List, [], ◌∷◌, Ok, Err, Result}
use Rattle.marklist.specs.Lines.{arrival_in}
use Rattle.strategies.specs.Rows.{CappedCountsOf}
use Rattle.strategies.specs.declared.marks.Arrival.{Arrival}
use Rattle.strategies.specs.declared.rows.Rows.{Rows}
use Rattle.marklist.specs.declared.faults.MarkFault.{MarkFault}
use Rattle.texts.specs.declared.at_line.AtLine.{AtLine}

-- the first line that writes no mark
abbrev pub ListFault : Type 0
ListFault = AtLine MarkFault

-- what line n writes in front of what the later lines write
abbrev pub with_mark : ℕ → Result Arrival MarkFault → Result (List Arrival) ListFault → Result (List Arrival) ListFault
with_mark n (Err f) later = Err (record { line = n; fault = f })
with_mark n (Ok a) (Ok l) = Ok (a ∷ l)
with_mark n (Ok a) (Err f) = Err f

-- the arrivals that the lines behind line n write, in order, or the first line that writes none
abbrev pub marks_in : ℕ → List (List ℕ) → Result (List Arrival) ListFault
marks_in n [] = Ok []
marks_in n (l ∷ ls) = with_mark (n + 1) (arrival_in l) (marks_in (n + 1) ls)

-- rows that count the arrivals, or the same fault
abbrev pub CountedBy : Result Rows ListFault → Result (List Arrival) ListFault → Type 0
CountedBy (Ok rows) (Ok l) = CappedCountsOf rows l
CountedBy (Ok rows) (Err f) = ⊥
CountedBy (Err e) (Ok l) = ⊥
CountedBy (Err e) (Err f) = e ≡ f
