-- A distance or none as a weight. Assumes nothing.
use Rattle.std.specs.Prelude.{ℕ, ◌+◌, min, cond, nat_lt, Option, Some, None}

-- no distance
abbrev pub none : Option ℕ
none = None

-- the lesser of two distances; none is more than any
abbrev pub lesser : Option ℕ → Option ℕ → Option ℕ
lesser None y = y
lesser (Some x) None = Some x
lesser (Some x) (Some y) = Some (min x y)

-- one further, up to 254: beyond that there is none
abbrev pub further : Option ℕ → Option ℕ
further None = None
further (Some x) = cond (nat_lt x 254) (Some (x + 1)) None
