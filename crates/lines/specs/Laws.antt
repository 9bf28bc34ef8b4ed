-- The law of a line: what is written is read, and nothing else is. Assumes nothing.
use Rattle.std.specs.Prelude.{◌≡◌, ℕ, List, Ok}
use Rattle.lines.specs.declared.line.Line.{Line}
use Rattle.lines.specs.Lines.{line_of}
use Rattle.lines.specs.Writing.{written, Writable}

-- a line is read as what it says exactly if it is the one spelling of that
pub record OneSpelling : Type 0 where
  pub back : (l : Line) → Writable l → line_of (written l) ≡ Ok l
  pub only : (bs : List ℕ) (l : Line) → line_of bs ≡ Ok l → Writable l × (bs ≡ written l)
