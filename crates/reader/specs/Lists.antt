-- What an access list says: its lines, one after the other. Assumes nothing.
use Rattle.std.specs.Prelude.{ℕ, ◌+◌, List, [], ◌∷◌, Some, None, Ok, Err, Option, Result}
use Rattle.lines.specs.declared.faults.LineFault.{LineFault}
use Rattle.texts.specs.declared.at_line.AtLine.{AtLine}
use Rattle.texts.specs.Lines.{lines_of}
use Rattle.lines.specs.declared.line.Line.{Line}
use Rattle.reader.specs.declared.reader.Reader.{Reader}
use Rattle.lines.specs.Lines.{line_of}

-- a line's fault, and the number of the line
abbrev pub ListFault : Type 0
ListFault = AtLine LineFault

-- what the line with the number n says
abbrev pub numbered : ℕ → Result Line LineFault → Result Line ListFault
numbered n (Ok line) = Ok line
numbered n (Err f) = Err (record { line = n; fault = f })

-- what the lines say that stand behind the first n
abbrev pub said_behind : ℕ → List (List ℕ) → List (Result Line ListFault)
said_behind n [] = []
said_behind n (l ∷ ls) = numbered (n + 1) (line_of l) ∷ said_behind (n + 1) ls

-- what a list says, line by line
abbrev pub list_of : List ℕ → List (Result Line ListFault)
list_of text = said_behind 0 (lines_of text)

-- the lines that a reader has before it, and what they say
abbrev pub lines_left : Reader → List (List ℕ)
lines_left r = lines_of r.lines.rest.now

abbrev pub unread : Reader → List (Result Line ListFault)
unread r = said_behind r.line (lines_left r)

-- the first line, if there is one
abbrev pub first_said : List (Result Line ListFault) → Result (Option Line) ListFault
first_said [] = Ok None
first_said (Ok line ∷ rs) = Ok (Some line)
first_said (Err f ∷ rs) = Err f

-- what stands behind the first
abbrev pub tail : {A : Type 0} → List A → List A
tail [] = []
tail (x ∷ xs) = xs

-- one more than n where any line is left
abbrev pub one_more : ℕ → List (List ℕ) → ℕ
one_more n [] = n
one_more n (l ∷ ls) = n + 1
