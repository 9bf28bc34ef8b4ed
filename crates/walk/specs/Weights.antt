-- What a weight is, and the weights that come down to an account along chains. Assumes nothing.
use Rattle.std.specs.Prelude.{◌≡◌, ℕ, zero, suc, List, [], ◌∷◌, map}
use Rattle.lists.specs.Lists.{below, join_all}
use Rattle.chains.specs.Chains.{Members, chains}

-- what every kind of weight must keep: adding in any order, with a nothing, and steps that keep nothing and spread over sums
pub record Laws {X : Type 0} (none : X) (add : X → X → X) (next : X → X) : Type 0 where
  pub assoc : (x y z : X) → add (add x y) z ≡ add x (add y z)
  pub comm : (x y : X) → add x y ≡ add y x
  pub neutral : (x : X) → add none x ≡ x
  pub keeps : next none ≡ none
  pub spreads : (x y : X) → next (add x y) ≡ add (next x) (next y)

-- the sum of a list of weights
abbrev pub total : {X : Type 0} → X → (X → X → X) → List X → X
total none add [] = none
total none add (x ∷ xs) = add x (total none add xs)

-- a weight stepped k times
abbrev pub times : {X : Type 0} → (X → X) → ℕ → X → X
times next zero x = x
times next (suc k) x = next (times next k x)

-- what comes to s along chains of length k: for each listed chain the weight of its top, stepped once for each membership
abbrev pub arriving : {X : Type 0} → (X → X) → ℕ → Members → (ℕ → X) → ℕ → ℕ → List X
arriving next n E start s k =
    join_all (λ a. map (λ path. times next k (start a)) (chains n E a s k)) (below n)

-- the same along all listed chains of fewer than `many` memberships
unfoldable pub arrivals : {X : Type 0} → (X → X) → ℕ → Members → (ℕ → X) → ℕ → ℕ → List X
arrivals next n E start s many = join_all (arriving next n E start s) (below many)
