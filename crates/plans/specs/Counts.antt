-- The item chains that lead down to one item, counted from every item at every length. Assumes nothing.
use Rattle.std.specs.Prelude.{◌≡◌, ℕ, ◌<◌, cond, List, [], length, replicate, nat_lt, slice_index, slice_index_or}
use Rattle.plans.specs.Items.{Items, item_chains}

-- the row of an item: a number for each length from 0 to 7
abbrev pub row_at : List (List ℕ) → ℕ → List ℕ
row_at t b = slice_index_or t b []

-- the row that is read at any number: past the last item nothing is counted
abbrev pub row_read : List (List ℕ) → ℕ → List ℕ
row_read t b = cond (nat_lt b 256) (row_at t b) (replicate 8 0)

-- the number at an item and a length
abbrev pub entry : List (List ℕ) → ℕ → ℕ → ℕ
entry t b k = slice_index (row_at t b) k

-- each number, at whatever length, is how many chains of that length lead from the item down to item o
abbrev pub CountsItems : Items → ℕ → List (List ℕ) → Type 0
CountsItems M o t = (b k : ℕ) → b < 256 → entry t b k ≡ length (item_chains M b o k)
