-- The places of the equipment table, and what they mean. Assumes nothing.
use Rattle.std.specs.Prelude.{◌≡◌, ℕ, ◌<◌, Bool, true, false, cond, not, ◌&&◌, List, [], ◌∷◌, ◌++◌, Some, None, Option, ◌==◌, nat_le, nat_lt, slice_index_or}
use Rattle.std.specs.Option.{option_to_list}
use Rattle.plans.specs.declared.place.Place.{Place}
use Rattle.plans.specs.Items.{Items, tallest}

-- the containers that a call names, in order
abbrev pub both : Option ℕ → Option ℕ → List ℕ
both first second = option_to_list first ++ option_to_list second

-- a place that no item has filled
abbrev pub blank : Place
blank = record { first = None; second = None; height = 0 }

-- the place that an item fills
abbrev pub place_at : List Place → ℕ → Place
place_at places item = slice_index_or places item blank

-- the containers that it keeps
abbrev pub containers_at : List Place → ℕ → List ℕ
containers_at places item = both (place_at places item).first (place_at places item).second

-- the height that it keeps
abbrev pub height_at : List Place → ℕ → ℕ
height_at places item = (place_at places item).height

-- the place of an item, where one fills it
abbrev pub filled_place : List Place → ℕ → ℕ → Option Place
filled_place places filled item = cond (nat_lt item filled) (Some (place_at places item)) None

-- the first places hold the items 0, 1, 2 and so on; the rest hold nothing
abbrev pub equipment : List Place → ℕ → Items
equipment places filled = record {
  known = λ item. nat_lt item filled;
  containers = λ item. cond (nat_lt item filled) (containers_at places item) [];
}

-- have all these containers a lower number than the item?
abbrev pub all_below : ℕ → List ℕ → Bool
all_below item [] = true
all_below item (c ∷ cs) = nat_lt c item && all_below item cs

-- are both containers there, and equal?
abbrev pub twice : Option ℕ → Option ℕ → Bool
twice None second = false
twice (Some a) None = false
twice (Some a) (Some b) = a == b

-- an item's place has lower containers, which differ, and the height that they give it, at most 7
abbrev pub good_place : (ℕ → ℕ) → ℕ → Place → Bool
good_place heights item place =
    all_below item (both place.first place.second)
    && not (twice place.first place.second)
    && place.height == tallest heights (both place.first place.second)
    && nat_le place.height 7

-- every filled place is such
abbrev pub Good : List Place → ℕ → Type 0
Good places filled = (item : ℕ) → item < filled → good_place (height_at places) item (place_at places item) ≡ true
