-- The default marks that accounts start with. Assumes nothing.
use Rattle.std.specs.Prelude.{◌≡◌, ℕ, ◌<◌, ◌≤◌, Bool, cond, not, length, ◌&&◌, ◌==◌}
use Rattle.chains.specs.Chains.{Members}
use Rattle.chains.specs.Tests.{groupless}
use Rattle.strategies.specs.declared.rows.Row.{Row}
use Rattle.strategies.specs.declared.rows.Rows.{Rows}
use Rattle.walk.specs.Counts.{row_of, three}
use Rattle.walked.specs.Taking.{start_at, holds_at}
use Rattle.walked.specs.declared.starts.Starts.{Starts}

-- one mark at distance 0
abbrev pub one_at_0 : ℕ → ℕ
one_at_0 d = cond (d == 0) 1 0

abbrev pub one_mark : Row
one_mark = row_of one_at_0

-- rows with one default mark
abbrev pub marked : Rows → Rows
marked x = three x.plus x.minus one_mark

-- does the account give default marks? It is a member of none, and holds no grant that counts.
abbrev pub gives_default : ℕ → Members → Starts → ℕ → Bool
gives_default n E x a = groupless n E a && not (holds_at x a)

-- what account a starts with once default marks are given
abbrev pub start_marked : ℕ → Members → Starts → ℕ → Rows
start_marked n E x a = cond (gives_default n E x a) (marked (start_at x a)) (start_at x a)

-- the accounts below m have their default marks, the others are as they were
pub record Marking (n : ℕ) (E : Members) (x : Starts) (m : ℕ) (y : Starts) : Type 0 where
  pub rows : length y.rows ≡ 64
  pub held : y.held ≡ x.held
  pub before : (a : ℕ) → a < m → start_at y a ≡ start_marked n E x a
  pub after : (a : ℕ) → m ≤ a → start_at y a ≡ start_at x a

-- each account that gives default marks starts with one, and otherwise nothing is changed
pub record Marked (n : ℕ) (E : Members) (x y : Starts) : Type 0 where
  pub start : (a : ℕ) → a < n → start_at y a ≡ start_marked n E x a
