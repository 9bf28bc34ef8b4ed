-- What is proved of every plan. Assumes nothing.
use Rattle.std.specs.Prelude.{◌≡◌, ℕ, ◌^◌, ◌≤◌, ◌↔◌, List, length}
use Rattle.lists.specs.Lists.{sum_below, Listed, Once}
use Rattle.plans.specs.Items.{Items, Lawful, height_of, item_chains}
use Rattle.plans.specs.Runs.{ItemChain, items_of, Longest}

-- what is listed is what is an item chain, no two chains are listed as the same, and nothing is listed twice
abbrev pub ItemListingIsExact : Type 0
ItemListingIsExact =
    (M : Items) → Lawful M → (b o k : ℕ) →
    ((path : List ℕ) → Listed path (item_chains M b o k) ↔ ((c : ItemChain M b k o) × (items_of c ≡ path)))
    × ((c d : ItemChain M b k o) → items_of c ≡ items_of d → c ≡ d)
    × Once (item_chains M b o k)

-- no chain has more than 7 containers
abbrev pub NoLongerChain : Type 0
NoLongerChain = (M : Items) → Lawful M → (b o k : ℕ) → ItemChain M b k o → k ≤ 7

-- from all items together, at most 2 ^ k chains of k containers lead down to an item, and at most 255 of all lengths
abbrev pub FewToAnItem : Type 0
FewToAnItem =
    (M : Items) → Lawful M → (o : ℕ) →
    ((items k : ℕ) → sum_below items (λ b. length (item_chains M b o k)) ≤ 2 ^ k)
    × ((items lengths : ℕ) → sum_below lengths (λ k. sum_below items (λ b. length (item_chains M b o k))) ≤ 255)

-- and so from one item alone
abbrev pub FewBetweenTwo : Type 0
FewBetweenTwo =
    (M : Items) → Lawful M → (b o : ℕ) →
    ((k : ℕ) → length (item_chains M b o k) ≤ 2 ^ k)
    × ((lengths : ℕ) → sum_below lengths (λ k. length (item_chains M b o k)) ≤ 255)

-- an item's height is the length of the longest run of containers above it
abbrev pub HeightIsLongest : Type 0
HeightIsLongest = (M : Items) → Lawful M → (item : ℕ) → Longest M item (height_of M item)
