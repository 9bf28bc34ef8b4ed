-- Every chain down to an account, whatever its top and its length. Assumes nothing.
use Rattle.std.specs.Prelude.{ℕ, ◌<◌, List}
use Rattle.lists.specs.Lists.{Listed, Once}
use Rattle.chains.specs.Chains.{Members, Chain, Within, Short}
use Rattle.walk.specs.Weights.{times}

-- a chain down to s
pub record ChainTo (E : Members) (s : ℕ) : Type 0 where
  pub top : ℕ
  pub memberships : ℕ
  pub chain : Chain E top memberships s

-- the list has every chain down to s, each once, in any order
pub record EveryChain (E : Members) (s : ℕ) (cs : List (ChainTo E s)) : Type 0 where
  pub all : (c : ChainTo E s) → Listed c cs
  pub once : Once cs

-- what a chain brings: the weight of its top, stepped once for each membership
abbrev pub brought : {X : Type 0} {E : Members} {s : ℕ} → (X → X) → (ℕ → X) → ChainTo E s → X
brought next start c = times next c.memberships (start c.top)

-- where no chain is longer than 7, there is a list of every chain down to a known account
abbrev pub ChainsCanBeListed : Type 0
ChainsCanBeListed = (n : ℕ) (E : Members) → Within n E → Short E → (s : ℕ) → s < n → (cs : List (ChainTo E s)) × EveryChain E s cs
