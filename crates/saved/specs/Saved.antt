-- Memory that a book left: its counts, and the grants that stood in it. Assumes nothing.
use Rattle.std.specs.Prelude.{◌≡◌, ℕ, ◌≤◌, false, ◌&&◌, ◌||◌, List, length, take, ◌==◌, nat_lt}
use Rattle.lists.specs.Lists.{some}
use Rattle.chains.specs.Chains.{Members}
use Rattle.chains.specs.Table.{shown_members, size, table_of}
use Rattle.chains.specs.Tests.{too_long, too_many}
use Rattle.model.specs.Grants.{misfit, repeated}
use Rattle.model.specs.Model.{Model}
use Rattle.model.specs.declared.grant.Grant.{Grant}
use Rattle.book.specs.Books.{accounts_of, capacity_in, shown}
use Rattle.book.specs.declared.books.Book.{Book}

-- what stands by the counts of n accounts and the grants
abbrev pub said_by : ℕ → List ℕ → List Grant → Model
said_by n counts gs = record { members = shown_members n counts; grants = gs }

-- a book of n accounts with room for so many grants can have left the counts and the grants
pub record LeftByABook (n capacity : ℕ) (counts : List ℕ) (gs : List Grant) : Type 0 where
  pub table : take (size n) counts ≡ table_of n (shown_members n counts)
  pub short : too_long n (shown_members n counts) ≡ false
  pub few : too_many n (shown_members n counts) ≡ false
  pub room : length gs ≤ capacity
  pub fitting : some (misfit n) gs ≡ false
  pub once : repeated gs ≡ false

-- the memberships in the groups below g, and of the members below m in g
unfoldable pub before : Members → ℕ → ℕ → Members
before E g m p c = E p c && (nat_lt p g || (p == g && nat_lt c m))

-- the second book has the grants, the accounts and the room of the first
abbrev pub OnlyMembersChange : Book → Book → Type 0
OnlyMembersChange old new =
    ((shown new).grants ≡ (shown old).grants) × (accounts_of new ≡ accounts_of old) × (capacity_in new ≡ capacity_in old)
