-- Sums of pairs of an account chain and an item chain, as the code adds them up. Assumes nothing.
use Rattle.std.specs.Prelude.{◌≡◌, ℕ, ◌-◌, ◌*◌, ◌<◌, ◌≤◌, Bool, false, cond, ◌&&◌, List, length, nat_le, nat_lt, slice_index, slice_index_or}
use Rattle.lists.specs.Lists.{sum_below}
use Rattle.chains.specs.Chains.{Members, count}
use Rattle.chains.specs.Tests.{groupless}

-- the count of a row at a length
abbrev pub at_of : List ℕ → ℕ → ℕ
at_of xs i = slice_index xs i

-- fifteen counts, none above 1,000,000,000,000
abbrev pub RowLike : List ℕ → Type 0
RowLike counts = (length counts ≡ 15) × ((d : ℕ) → d < 15 → slice_index counts d ≤ 1000000000000)

-- what x account chains of length up give at distance d with the item chains of fewer than j containers, of which there are g k of length k
unfoldable pub reached : ℕ → ℕ → ℕ → (ℕ → ℕ) → ℕ → ℕ
reached j up x g d = cond (nat_le up d && nat_lt (d - up) j) (x * g (d - up)) 0

-- the same with all item chains
abbrev pub shifted : ℕ → ℕ → (ℕ → ℕ) → ℕ → ℕ
shifted = reached 8

-- how many default marks the accounts below m give at distance d: those that are not held back, and members of none
unfoldable pub defaults_below : ℕ → ℕ → Members → List Bool → ℕ → ℕ → ℕ
defaults_below m n E held s d =
    sum_below m (λ a. cond (slice_index_or held a false) 0 (cond (groupless n E a) (cond (nat_lt d 8) (count n E a s d) 0) 0))
