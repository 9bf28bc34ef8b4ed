-- How a fault at its line is written. Assumes nothing.
use Rattle.std.specs.Prelude.{ℕ, List, ◌++◌, Option, Some, None, decimal, codes}

-- the line's number and then the fault, where it is told how the fault is written
abbrev pub at_its_line : ℕ → Option (List ℕ) → Option (List ℕ)
at_its_line n None = None
at_its_line n (Some text) = Some (codes "line " ++ (decimal n ++ (codes ": " ++ text)))
