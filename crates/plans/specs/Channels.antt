-- The channel plan. Assumes nothing.
use Rattle.std.specs.Prelude.{ℕ, ◌/◌, cond, ◌&&◌, List, [], ◌∷◌, nat_lt}
use Rattle.plans.specs.Items.{Items}

-- an item above 1 lies in the item of half its number, the fraction dropped
abbrev pub halves : ℕ → List ℕ
halves item = cond (nat_lt 1 item && nat_lt item 256) (item / 2 ∷ []) []

-- items 1 to 255 are known
abbrev pub channels : Items
channels = record { known = λ item. nat_lt 0 item && nat_lt item 256; containers = halves }
