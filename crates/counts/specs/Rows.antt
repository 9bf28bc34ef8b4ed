-- Rows of eight counts in a table, and the chains that go past a membership, as the code reads and sums them. Assumes nothing.
use Rattle.std.specs.Prelude.{ℕ, ◌+◌, ◌-◌, ◌*◌, ◌<◌, ◌≤◌, cond, ◌&&◌, List, take, drop, ◌==◌, slice_index}
use Rattle.lists.specs.Lists.{sum_below}
use Rattle.chains.specs.Table.{entry}

-- the counts without memberships: one chain of length 0 from each account to itself
abbrev pub alone : ℕ → ℕ → ℕ → ℕ
alone a s k = cond (a == s && k == 0) 1 0

-- the eight counts from a to s
abbrev pub row : List ℕ → ℕ → ℕ → ℕ → List ℕ
row t n a s = take 8 (drop ((a * n + s) * 8) t)

-- the count of a row at a length
abbrev pub at_of : List ℕ → ℕ → ℕ
at_of xs i = slice_index xs i

-- the chains of length k that go past a membership: i steps above it and j below it, i + 1 + j = k
unfoldable pub through : (ℕ → ℕ) → (ℕ → ℕ) → ℕ → ℕ
through up down k = sum_below k (λ i. up i * down (k - 1 - i))

-- none of eight counts passes the limit
abbrev pub Low : List ℕ → Type 0
Low xs = (i : ℕ) → i < 8 → slice_index xs i ≤ 99999

-- no count of the table passes the limit
abbrev pub LowTable : ℕ → List ℕ → Type 0
LowTable n t = (a s k : ℕ) → a < n → s < n → k < 8 → entry t n a s k ≤ 99999

-- the count after c becomes a member of p
abbrev pub count_after : List ℕ → ℕ → ℕ → ℕ → ℕ → ℕ → ℕ → ℕ
count_after t n p c a s k = entry t n a s k + through (entry t n a p) (entry t n c s) k

-- a count that would pass the limit if c became a member of p
pub record Passing (t : List ℕ) (n p c : ℕ) : Type 0 where
  pub top : ℕ
  pub end : ℕ
  pub long : ℕ
  pub top_in : top < n
  pub end_in : end < n
  pub long_in : long < 8
  pub over : 99999 < count_after t n p c top end long

-- two chains that would make one longer than 7 if c became a member of p
pub record TooFar (t : List ℕ) (n p c : ℕ) : Type 0 where
  pub top : ℕ
  pub end : ℕ
  pub above : ℕ
  pub below : ℕ
  pub top_in : top < n
  pub end_in : end < n
  pub above_in : above < 8
  pub below_in : below < 8
  pub up : 0 < entry t n top p above
  pub down : 0 < entry t n c end below
  pub over : 7 < above + 1 + below
