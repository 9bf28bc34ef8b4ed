-- What the walk finds, in rows and in distances. Assumes nothing.
use Rattle.std.specs.Prelude.{◌≡◌, ℕ, ◌+◌, ◌-◌, ◌*◌, ◌<◌, ◌≤◌, cond, Option, Some, IsSomeAnd, nat_le}
use Rattle.lists.specs.Lists.{sum_below}
use Rattle.chains.specs.Chains.{Members, Chain, Short, count}
use Rattle.walk.specs.Counts.{limited}

-- how many arrive at s at distance d along chains of fewer than `many` memberships:
-- each chain of k memberships from a brings as many as a has at distance d - k
unfoldable pub arrived : ℕ → Members → (ℕ → ℕ → ℕ) → ℕ → ℕ → ℕ → ℕ
arrived n E start s many d =
    sum_below many (λ k. sum_below n (λ a. count n E a s k * cond (nat_le k d) (start a (d - k)) 0))

-- r d is how many arrive at s at each distance d, up to a million million: along chains of at most 7 memberships, and so
-- along all chains if none is longer
pub record ArrivalsCounted (n : ℕ) (E : Members) (start : ℕ → ℕ → ℕ) (s : ℕ) (r : ℕ → ℕ) : Type 0 where
  pub answer : (d : ℕ) → d < 15 → r d ≡ limited (arrived n E start s 8 d)
  pub exact : (d : ℕ) → d < 15 → arrived n E start s 8 d ≤ 1000000000000 → r d ≡ arrived n E start s 8 d
  pub every : Short E → (many : ℕ) → 8 ≤ many → (d : ℕ) → d < 15 → r d ≡ limited (arrived n E start s many d)

-- r is the least distance at which anything arrives at s, where each account begins with a distance of its own or none, and
-- no distance past 254 is promised: along chains of at most 7 memberships, and so along all chains if none is longer
pub record Nearest (E : Members) (start : ℕ → Option ℕ) (s : ℕ) (r : Option ℕ) : Type 0 where
  pub least : (a x k : ℕ) → start a ≡ Some x → k ≤ 7 → Chain E a k s → x + k ≤ 254 → IsSomeAnd r (λ y. y ≤ x + k)
  pub reached : (y : ℕ) → r ≡ Some y → (a : ℕ) × (x : ℕ) × (k : ℕ) × (k ≤ 7) × Chain E a k s × (start a ≡ Some x) × (y ≡ x + k)
  pub every : Short E → (a x k : ℕ) → start a ≡ Some x → Chain E a k s → x + k ≤ 254 → IsSomeAnd r (λ y. y ≤ x + k)
