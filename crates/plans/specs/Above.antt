-- How far the count of item chains has come: the items are passed from the highest number down. Assumes nothing.
use Rattle.std.specs.Prelude.{◌≡◌, ℕ, suc, ◌+◌, ◌*◌, ◌<◌, cond, List, length, sum_by, ◌==◌}
use Rattle.std.specs.List.{AllByRecursion}
use Rattle.lists.specs.Lists.{sum_below}
use Rattle.plans.specs.Items.{Items, item_chains}

-- how many chains of each length lead down from each item
abbrev pub Lengths : Type 0
Lengths = ℕ → ℕ → ℕ

-- how often b is one of the containers
unfoldable pub times : ℕ → List ℕ → ℕ
times b containers = sum_by (λ c. cond (b == c) 1 0) containers

-- the chains of one container more, from b to an item below x and on down to o
unfoldable pub ahead : Items → ℕ → ℕ → ℕ → ℕ → ℕ
ahead M o x b k = sum_below x (λ i. length (item_chains M i o k) * times b (M.containers i))

-- the items from x on are passed
pub record Passed (M : Items) (o x : ℕ) (L : Lengths) : Type 0 where
  pub start : (b : ℕ) → b < 256 → L b 0 ≡ cond (b == o) 1 0
  pub more : (b k : ℕ) → b < 256 → k < 7 → L b (suc k) + ahead M o x b k ≡ length (item_chains M b o (suc k))

-- the items above x are passed, and x itself but for these of its containers
pub record Passing (M : Items) (o x : ℕ) (rest : List ℕ) (L : Lengths) : Type 0 where
  pub lower : AllByRecursion (λ c. c < x) rest
  pub start : (b : ℕ) → b < 256 → L b 0 ≡ cond (b == o) 1 0
  pub more : (b k : ℕ) → b < 256 → k < 7 →
      L b (suc k) + (ahead M o x b k + length (item_chains M x o k) * times b rest) ≡ length (item_chains M b o (suc k))

-- each chain from one item made one longer, from another
pub record Lengthened (from to : ℕ) (L K : Lengths) : Type 0 where
  pub start : (b : ℕ) → b < 256 → K b 0 ≡ L b 0
  pub more : (b k : ℕ) → b < 256 → k < 7 → K b (suc k) ≡ L b (suc k) + cond (b == to) (L from k) 0
