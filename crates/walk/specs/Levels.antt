-- One level of the walk: what the members get from their groups. Assumes nothing.
use Rattle.std.specs.Prelude.{ℕ, List, map}
use Rattle.lists.specs.Lists.{below, keep}
use Rattle.chains.specs.Chains.{Members}
use Rattle.walk.specs.Weights.{total}

-- the weights that come down to m from its groups in one step
abbrev pub from_groups : {X : Type 0} → (X → X) → ℕ → Members → (ℕ → X) → ℕ → List X
from_groups next n E row m = map (λ g. next (row g)) (keep (λ g. E g m) (below n))

-- the row of weights one level further down
abbrev pub down : {X : Type 0} → X → (X → X → X) → (X → X) → ℕ → Members → (ℕ → X) → ℕ → X
down none add next n E row m = total none add (from_groups next n E row m)
