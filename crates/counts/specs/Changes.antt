-- What a change of a membership does to one count: a join adds the chains past it, a leaving takes them away. Assumes nothing.
use Rattle.std.specs.Prelude.{ℕ, ◌+◌, ◌-◌, ◌<◌, ◌≤◌, List}
use Rattle.chains.specs.Table.{entry}
use Rattle.counts.specs.Rows.{through}

-- a membership is made, or it ends
pub data Way : Type 0 where
  made : Way
  ended : Way

-- the count x with d chains added or taken away
abbrev pub changed : Way → ℕ → ℕ → ℕ
changed made x d = x + d
changed ended x d = x - d

-- the change leaves a count within the limit, and never below 0
abbrev pub Allowed : Way → ℕ → ℕ → Type 0
Allowed made x d = x + d ≤ 99999
Allowed ended x d = d ≤ x

-- the count from a to s at length k, changed by the chains past the membership of c in p
abbrev pub updated : Way → List ℕ → ℕ → ℕ → ℕ → ℕ → ℕ → ℕ → ℕ
updated way t n p c a s k = changed way (entry t n a s k) (through (entry t n a p) (entry t n c s) k)

-- the change is possible at every count
abbrev pub AllAllowed : Way → List ℕ → ℕ → ℕ → ℕ → Type 0
AllAllowed way t n p c = (a s k : ℕ) → a < n → s < n → k < 8 → Allowed way (entry t n a s k) (through (entry t n a p) (entry t n c s) k)
