-- The counts of a listing as sums of products of chain counts. Assumes nothing.
use Rattle.std.specs.Prelude.{ℕ, ◌+◌, ◌*◌, Bool, cond, not, ◌&&◌, ltb, List, length, sum_by, ◌==◌, nat_lt}
use Rattle.lists.specs.Lists.{below, some, sum_below}
use Rattle.chains.specs.Chains.{Members, count}
use Rattle.plans.specs.Items.{Items, item_chains}
use Rattle.strategies.specs.Resolve.{same_sign}
use Rattle.strategies.specs.declared.marks.Sign.{Sign}
use Rattle.chains.specs.Tests.{groupless}
use Rattle.model.specs.declared.grant.Grant.{Grant}

-- how many item chains lead down from each item, at each length
abbrev pub Lengths : Type 0
Lengths = ℕ → ℕ → ℕ

-- as they are listed
abbrev pub listed_lengths : Items → ℕ → Lengths
listed_lengths I o b j = length (item_chains I b o j)

-- the sum of f i * g j over i + j = d, both below 8
unfoldable pub products : (ℕ → ℕ) → (ℕ → ℕ) → ℕ → ℕ
products f g d = sum_below 8 (λ j. sum_below 8 (λ i. cond (i + j == d) (f i * g j) 0))

-- how many arrivals of the sign one grant gives at distance d
unfoldable pub of_grant : ℕ → Members → Lengths → ℕ → ℕ → Sign → ℕ → Grant → ℕ
of_grant n E L s r sign d g = cond (g.right == r && same_sign sign g.sign) (products (count n E g.account s) (L g.item) d) 0

-- how many all of them give
unfoldable pub of_grants : ℕ → Members → List Grant → Lengths → ℕ → ℕ → Sign → ℕ → ℕ
of_grants n E grants L s r sign d = sum_by (of_grant n E L s r sign d) grants

-- does a chain lead down from the item?
unfoldable pub above_by : Lengths → ℕ → Bool
above_by L b = some (λ k. ltb 0 (L b k)) (below 8)

-- is the grant one of the right to the account, on an item from which a chain leads down?
abbrev pub labels : Lengths → ℕ → ℕ → Grant → Bool
labels L r a g = g.account == a && (g.right == r && above_by L g.item)

-- does the account hold such a grant?
unfoldable pub labelled_by : List Grant → Lengths → ℕ → ℕ → Bool
labelled_by grants L r a = some (labels L r a) grants

-- does the account give default marks?
unfoldable pub unmarked_by : ℕ → Members → List Grant → Lengths → ℕ → ℕ → Bool
unmarked_by n E grants L r a = groupless n E a && not (labelled_by grants L r a)

-- how many default marks arrive at distance d
unfoldable pub of_accounts : ℕ → Members → List Grant → Lengths → ℕ → ℕ → ℕ → ℕ
of_accounts n E grants L s r d = sum_below n (λ a. cond (unmarked_by n E grants L r a) (cond (nat_lt d 8) (count n E a s d) 0) 0)
