-- Where the chain counts of n accounts stand in a list, and the memberships that such a list shows. Assumes nothing.
use Rattle.std.specs.Prelude.{◌≡◌, ℕ, ◌+◌, ◌*◌, ◌<◌, ◌≤◌, ◌&&◌, List, map, length, take, nat_lt, slice_index}
use Rattle.lists.specs.Lists.{below, join_all}
use Rattle.chains.specs.Chains.{Members, Within, count}

-- the place of the count from a to s at length k, with n accounts
abbrev pub place : ℕ → ℕ → ℕ → ℕ → ℕ
place n a s k = (a * n + s) * 8 + k

-- how many counts n accounts have: eight for each pair
abbrev pub size : ℕ → ℕ
size n = n * n * 8

-- the count from a to s at length k
abbrev pub entry : List ℕ → ℕ → ℕ → ℕ → ℕ → ℕ
entry t n a s k = slice_index t (place n a s k)

-- at most 64 accounts, and a list long enough for their counts
pub record Holds (n : ℕ) (t : List ℕ) : Type 0 where
  pub few : n ≤ 64
  pub fits : size n ≤ length t

-- the memberships that the counts of n accounts show: the chains of length 1
unfoldable pub shown_members : ℕ → List ℕ → Members
shown_members n t g m = nat_lt g n && (nat_lt m n && nat_lt 0 (entry t n g m 1))

-- the eight counts of a set of memberships from a to s, by length
abbrev pub row_of : ℕ → Members → ℕ → ℕ → List ℕ
row_of n E a s = map (count n E a s) (below 8)

-- the counts of a set of memberships, in the order of their places
unfoldable pub table_of : ℕ → Members → List ℕ
table_of n E = join_all (λ a. join_all (row_of n E a) (below n)) (below n)

-- a table has size n counts, and at each place the count that belongs there
abbrev pub TableHasEachCount : Type 0
TableHasEachCount =
    (n : ℕ) (E : Members) →
    (length (table_of n E) ≡ size n)
    × ((a s k : ℕ) → a < n → s < n → k < 8 → entry (table_of n E) n a s k ≡ count n E a s k)

-- a list that begins with the counts of a set of memberships shows that set
abbrev pub TableShowsItsMembers : Type 0
TableShowsItsMembers =
    (n : ℕ) (E : Members) (t : List ℕ) → Within n E → take (size n) t ≡ table_of n E → shown_members n t ≡ E
