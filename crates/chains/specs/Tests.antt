-- Tests of a set of memberships, by listing its chains. They compute. Assumes nothing.
use Rattle.std.specs.Prelude.{ℕ, Bool, not, length, nat_lt}
use Rattle.lists.specs.Lists.{any_at_all, below, keep, some}
use Rattle.chains.specs.Chains.{Members, chains, count}

-- does a chain lead from a down to s?
unfoldable pub leads : ℕ → Members → ℕ → ℕ → Bool
leads n E a s = some (λ k. any_at_all (chains n E a s k)) (below 8)

-- do two of the accounts below n pass the test?
abbrev pub some_pair : ℕ → (ℕ → ℕ → Bool) → Bool
some_pair n f = some (λ a. some (f a) (below n)) (below n)

-- is a chain longer than seven memberships? Then one of eight begins at its top.
unfoldable pub too_long : ℕ → Members → Bool
too_long n E = some_pair n (λ a s. any_at_all (chains n E a s 8))

-- does a count pass 99,999?
unfoldable pub too_many : ℕ → Members → Bool
too_many n E = some_pair n (λ a s. some (λ k. nat_lt 99999 (count n E a s k)) (below 8))

-- is the account a member of no group?
unfoldable pub groupless : ℕ → Members → ℕ → Bool
groupless n E a = not (some (λ g. E g a) (below n))

-- how many groups the account is a member of
unfoldable pub groups_of : ℕ → Members → ℕ → ℕ
groups_of n E a = length (keep (λ g. E g a) (below n))
