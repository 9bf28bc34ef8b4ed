-- What calls do to the lent records, those that do not stand included. Assumes nothing.
use Rattle.std.specs.Prelude.{ℕ, ◌-◌, List, [], ◌∷◌, ◌++◌, length, drop, slice_set}
use Rattle.model.specs.Grants.{others}
use Rattle.model.specs.Model.{Model, give_outcome, withdraw_outcome}
use Rattle.model.specs.Refusals.{where_accepted}
use Rattle.model.specs.Runs.{next}
use Rattle.model.specs.declared.call.Call.{Call}
use Rattle.model.specs.declared.call.Call.TheVariants.{Join, Leave, Give, Withdraw, Quick, Walked, Least}
use Rattle.model.specs.declared.grant.Grant.{Grant}

-- the records after a call: an accepted grant is written into the first free one; an accepted withdrawal closes the gap, and the
-- vacated last place and those behind it keep what lies there; nothing else writes
abbrev pub record_step : ℕ → ℕ → Model → List Grant → Call → List Grant
record_step n capacity M rs (Join p c) = rs
record_step n capacity M rs (Leave p c) = rs
record_step n capacity M rs (Give g) =
    where_accepted (give_outcome n capacity M g.account g.item g.right) (slice_set rs (length M.grants) g) rs
record_step n capacity M rs (Withdraw x) =
    where_accepted (withdraw_outcome n M x.account x.item x.right) (others x.account x.item x.right M.grants ++ drop (length M.grants - 1) rs) rs
record_step n capacity M rs (Quick x t) = rs
record_step n capacity M rs (Walked x t) = rs
record_step n capacity M rs (Least x t) = rs

-- the records after a list of calls
unfoldable pub record_run : ℕ → ℕ → Model → List Grant → List Call → List Grant
record_run n capacity M rs [] = rs
record_run n capacity M rs (c ∷ cs) = record_run n capacity (next n capacity M c) (record_step n capacity M rs c) cs
