-- The least distance at which grants of a sign start, account by account. Assumes nothing.
use Rattle.std.specs.Prelude.{◌≡◌, ℕ, ◌+◌, ◌<◌, List, Option, Some, None, slice_index_or}
use Rattle.strategies.specs.declared.marks.Sign.{Sign}
use Rattle.model.specs.Counted.{Lengths}
use Rattle.model.specs.declared.grant.Grant.{Grant}
use Rattle.walked.specs.Starts.{given_by, started}

-- the first distance at which f has anything, or none if it has nothing at all
abbrev pub FirstIfAny : (ℕ → ℕ) → Option ℕ → Type 0
FirstIfAny f None = (d : ℕ) → f d ≡ 0
FirstIfAny f (Some x) = (0 < f x) × ((d : ℕ) → d < x → f d ≡ 0)

-- the distance of account a, or none
abbrev pub distance_at : List (Option ℕ) → ℕ → Option ℕ
distance_at starts a = slice_index_or starts a None

-- the first distances of what accounts have become those with the grant's arrivals added
pub record Lowered (L : Lengths) (g : Grant) (x y : List (Option ℕ)) : Type 0 where
  pub start : (a : ℕ) → a < 64 → (f : ℕ → ℕ) → FirstIfAny f (distance_at x a) → FirstIfAny (λ d. f d + given_by L g.right a g.sign d g) (distance_at y a)

-- each account has the first distance of the arrivals that its grants of the sign give
pub record NearestStarts (grants : List Grant) (L : Lengths) (r : ℕ) (sign : Sign) (starts : List (Option ℕ)) : Type 0 where
  pub start : (a : ℕ) → a < 64 → FirstIfAny (started grants L r a sign) (distance_at starts a)
