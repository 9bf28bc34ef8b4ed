-- A table over lent memory: the memberships that it shows, and when it is sound. Assumes nothing.
use Rattle.std.specs.Prelude.{◌≡◌, ℕ, ◌≤◌, false, List, length, take, drop}
use Rattle.chains.specs.Chains.{Members}
use Rattle.chains.specs.Table.{entry, shown_members, size, table_of}
use Rattle.chains.specs.Tests.{too_long, too_many}
use Rattle.table.specs.declared.tables.Table.{Table}
pub use Rattle.counts.specs.Rooms.{Largest}

-- the memberships that a table shows
abbrev pub members_in : Table → Members
members_in t = shown_members t.accounts t.counts.now

-- the count that stands in a table
abbrev pub count_in : Table → ℕ → ℕ → ℕ → ℕ
count_in t a s k = entry t.counts.now t.accounts a s k

-- the lent counts behind the table, which it never touches
abbrev pub behind : Table → List ℕ
behind t = drop (size t.accounts) t.counts.now

-- there are at most 64 accounts, and their counts fit
abbrev pub FitsIn : Table → Type 0
FitsIn t = (t.accounts ≤ 64) × (size t.accounts ≤ length t.counts.now)

-- the counts are those of the memberships that the table shows, no chain is longer than 7, and no count passes 99,999
pub record SoundTable (t : Table) : Type 0 where
  pub fits : FitsIn t
  pub counts : take (size t.accounts) t.counts.now ≡ table_of t.accounts (members_in t)
  pub short : too_long t.accounts (members_in t) ≡ false
  pub few : too_many t.accounts (members_in t) ≡ false
