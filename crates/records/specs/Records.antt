-- The grants that stand in lent records, and what the calls do to the records. Assumes nothing.
use Rattle.std.specs.Prelude.{◌≡◌, ℕ, ◌-◌, ◌≤◌, min, false, List, ◌++◌, length, take, drop, slice_set}
use Rattle.lists.specs.Lists.{some}
use Rattle.model.specs.Grants.{misfit, others, repeated}
use Rattle.model.specs.declared.grant.Grant.{Grant}
use Rattle.records.specs.declared.grants.Grants.{Grants}

-- the grants that stand, in the order given: the first records
abbrev pub standing_in : Grants → List Grant
standing_in gs = take gs.standing gs.records.now

-- how many grants may stand
abbrev pub capacity_of : Grants → ℕ
capacity_of gs = min 512 (length gs.records.now)

-- what always holds of the grants of a book of n accounts
pub record KeptGrants (n : ℕ) (gs : Grants) : Type 0 where
  pub room : gs.standing ≤ capacity_of gs
  pub fitting : some (misfit n) (standing_in gs) ≡ false
  pub once : repeated (standing_in gs) ≡ false

-- the records with a grant written at the first free place
abbrev pub written : Grants → Grant → List Grant
written gs g = slice_set gs.records.now gs.standing g

-- the records with the gap of a withdrawn grant closed: the vacated last place and those behind it keep their records
abbrev pub closed : Grants → ℕ → ℕ → ℕ → List Grant
closed gs a i r = others a i r (standing_in gs) ++ drop (gs.standing - 1) gs.records.now
