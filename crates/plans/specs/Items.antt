-- What a plan of items means, what every plan keeps, and the item chains that its containers form. Assumes nothing.
use Rattle.std.specs.Prelude.{◌≡◌, ℕ, zero, suc, ◌<◌, ◌≤◌, max, Bool, true, false, cond, List, [], ◌∷◌, map, length, Option, ◌==◌}
use Rattle.std.specs.List.{AllByRecursion}
use Rattle.std.specs.Option.{option_to_list}
use Rattle.lists.specs.Lists.{join_all, Once}

-- the items that are known, and the containers that each item lies in, in order
pub record Items : Type 0 where
  pub known : ℕ → Bool
  pub containers : ℕ → List ℕ

-- the containers that are there, in order
abbrev pub present : List (Option ℕ) → List ℕ
present containers = join_all option_to_list containers

-- one more than the largest of f over a list; 0 for an empty list
abbrev pub tallest : (ℕ → ℕ) → List ℕ → ℕ
tallest f [] = 0
tallest f (x ∷ xs) = max (suc (f x)) (tallest f xs)

-- the longest run of containers above an item, among those of at most the given length
abbrev pub rise : (ℕ → List ℕ) → ℕ → ℕ → ℕ
rise containers zero item = 0
rise containers (suc most) item = tallest (rise containers most) (containers item)

-- the longest run of containers above an item: each has a lower number, so no run is longer than the item's number
abbrev pub height_of : Items → ℕ → ℕ
height_of M item = rise M.containers item item

-- what every plan keeps
pub record Lawful (M : Items) : Type 0 where
  -- numbers above 255 are unknown
  pub small : (item : ℕ) → M.known item ≡ true → item < 256
  -- an unknown item has no containers, and height 0
  pub unknown : (item : ℕ) → M.known item ≡ false → M.containers item ≡ []
  pub flat : (item : ℕ) → M.known item ≡ false → height_of M item ≡ 0
  -- no item has more than two containers, and no two of them are the same
  pub few : (item : ℕ) → length (M.containers item) ≤ 2
  pub different : (item : ℕ) → Once (M.containers item)
  -- containers are known, and have lower numbers than the item
  pub placed : (item : ℕ) → AllByRecursion (λ c. M.known c ≡ true) (M.containers item)
  pub lower : (item : ℕ) → AllByRecursion (λ c. c < item) (M.containers item)
  -- no run of containers above an item is longer than 7
  pub low : (item : ℕ) → height_of M item ≤ 7

-- every chain of k containers from item b down to item o, each as the list of its items from o up to b
unfoldable pub item_chains : Items → ℕ → ℕ → ℕ → List (List ℕ)
item_chains M b o zero = cond (b == o) ((o ∷ []) ∷ []) []
item_chains M b o (suc k) = join_all (λ c. map (λ path. o ∷ path) (item_chains M b c k)) (M.containers o)
