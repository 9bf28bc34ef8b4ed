-- What the walk gives. Assumes nothing.
use Rattle.std.specs.Prelude.{◌≡◌, ℕ, ◌≤◌, List, map}
use Rattle.chains.specs.Chains.{Members, Short}
use Rattle.walk.specs.Weights.{total, arrivals}
use Rattle.walk.specs.Every.{ChainTo, EveryChain, brought}

-- r is the sum of what comes down to s, where each account begins with a weight of its own:
-- over each listed chain of at most 7 memberships; and if no chain is longer, over the listed chains up to any length from
-- there on, and over any list of every chain
pub record Walked {X : Type 0} (none : X) (add : X → X → X) (next : X → X) (n : ℕ) (E : Members) (start : ℕ → X) (s : ℕ) (r : X) : Type 0 where
  pub answer : r ≡ total none add (arrivals next n E start s 8)
  pub every : Short E → (many : ℕ) → 8 ≤ many → r ≡ total none add (arrivals next n E start s many)
  pub chains : Short E → (cs : List (ChainTo E s)) → EveryChain E s cs → r ≡ total none add (map (brought next start) cs)
