-- Item chains one by one, and what a height says of them. Assumes nothing.
use Rattle.std.specs.Prelude.{◌≡◌, ℕ, suc, ◌≤◌, Bool, true, List, [], ◌∷◌, nat_eq}
use Rattle.lists.specs.Lists.{some}
use Rattle.plans.specs.Items.{Items}

-- does item o lie in item c?
abbrev pub contains : Items → ℕ → ℕ → Bool
contains M c o = some (nat_eq c) (M.containers o)

-- A chain of k containers from item b down to item o: o lies in the next item of the chain, and so on up to b.
pub data ItemChain (M : Items) : ℕ → ℕ → ℕ → Type 0 where
  itself : {item : ℕ} → ItemChain M item 0 item
  inside : {b c k o : ℕ} → contains M c o ≡ true → ItemChain M b k c → ItemChain M b (suc k) o

-- the items of a chain, from the lowest up
abbrev pub items_of : {M : Items} {b k o : ℕ} → ItemChain M b k o → List ℕ
items_of (itself {item}) = item ∷ []
items_of (inside {o = o} e chain) = o ∷ items_of chain

-- a run of k containers above an item: a chain of that length from some item
abbrev pub Run : Items → ℕ → ℕ → Type 0
Run M item k = (b : ℕ) × ItemChain M b k item

-- there is a run of this length above the item, and none that is longer
pub record Longest (M : Items) (item height : ℕ) : Type 0 where
  pub there : Run M item height
  pub most : (k : ℕ) → Run M item k → k ≤ height
