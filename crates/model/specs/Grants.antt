-- Grants, and lists of them. Assumes nothing.
use Rattle.std.specs.Prelude.{ℕ, Bool, false, not, ◌&&◌, ◌||◌, List, [], ◌∷◌, ◌==◌, nat_lt}
use Rattle.lists.specs.Lists.{keep, some}
use Rattle.model.specs.declared.grant.Grant.{Grant}

-- is the grant for the account, the item and the right, whatever its sign?
abbrev pub is_for : ℕ → ℕ → ℕ → Grant → Bool
is_for a i r g = g.account == a && (g.item == i && g.right == r)

-- the grants that are not for these, in their order
abbrev pub others : ℕ → ℕ → ℕ → List Grant → List Grant
others a i r gs = keep (λ g. not (is_for a i r g)) gs

-- is the account not one of the first n?
abbrev pub unknown : ℕ → ℕ → Bool
unknown n a = not (nat_lt a n)

-- is the account, the right or the item of a grant out of range?
abbrev pub misfit : ℕ → Grant → Bool
misfit n g = unknown n g.account || (nat_lt 7 g.right || nat_lt 255 g.item)

-- are two of the grants for the same account, item and right?
unfoldable pub repeated : List Grant → Bool
repeated [] = false
repeated (g ∷ gs) = some (is_for g.account g.item g.right) gs || repeated gs
