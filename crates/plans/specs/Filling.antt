-- Filling a plan item by item, in number order. Assumes nothing.
use Rattle.std.specs.Prelude.{ℕ, Bool, true, false, cond, not, ◌||◌, List, [], ◌∷◌, length, Ok, Err, Option, Result, ◌==◌, nat_lt}
use Rattle.lists.specs.Lists.{keep, below, some}
use Rattle.plans.specs.declared.refusal.EquipmentRefusal.{EquipmentRefusal}
use Rattle.plans.specs.declared.refusal.EquipmentRefusal.TheVariants.{NotNext, BadContainer, TooHigh}
use Rattle.plans.specs.Items.{Items, tallest, height_of}
use Rattle.plans.specs.Equipment.{both, twice}

-- nothing is known
abbrev pub no_items : Items
no_items = record { known = λ item. false; containers = λ item. [] }

-- how many items are known, which is the number of the item that comes next
unfoldable pub next_number : Items → ℕ
next_number M = length (keep M.known (below 256))

-- the plan with one item more
abbrev pub with_item : Items → ℕ → List ℕ → Items
with_item M item containers = record {
  known = λ n. cond (n == item) true (M.known n);
  containers = λ n. cond (n == item) containers (M.containers n);
}

-- is one of the containers not known?
abbrev pub some_unknown : Items → List ℕ → Bool
some_unknown M containers = some (λ c. not (M.known c)) containers

-- the checks in their order, each with the refusal where it holds
abbrev pub checks : Items → ℕ → Option ℕ → Option ℕ → List (Bool × EquipmentRefusal)
checks M item first second =
    (not (item == next_number M) || (item == 256), NotNext)
    ∷ (some_unknown M (both first second) || twice first second, BadContainer)
    ∷ (nat_lt 7 (tallest (height_of M) (both first second)), TooHigh)
    ∷ []

-- the refusal of the first check that holds
abbrev pub first_refusal : List (Bool × EquipmentRefusal) → Result (Unit {0}) EquipmentRefusal
first_refusal [] = Ok tt
first_refusal (check ∷ rest) = cond check.0 (Err check.1) (first_refusal rest)

-- what adding an item answers
abbrev pub add_answer : Items → ℕ → Option ℕ → Option ℕ → Result (Unit {0}) EquipmentRefusal
add_answer M item first second = first_refusal (checks M item first second)

-- the plan behind an answer: the item added, or as it was
abbrev pub behind : Result (Unit {0}) EquipmentRefusal → Items → ℕ → List ℕ → Items
behind (Ok _) M item containers = with_item M item containers
behind (Err _) M item containers = M

-- the plan after a call that adds an item
abbrev pub add_after : Items → ℕ → Option ℕ → Option ℕ → Items
add_after M item first second = behind (add_answer M item first second) M item (both first second)
