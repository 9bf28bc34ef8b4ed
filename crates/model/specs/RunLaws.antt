-- What is proved of every run of the model. Assumes nothing.
use Rattle.std.specs.Prelude.{◌≡◌, ℕ, ◌<◌, ◌≤◌, false, ◌↔◌, List, length, Err}
use Rattle.model.specs.declared.call.Call.{Call}
use Rattle.lists.specs.Lists.{some}
use Rattle.chains.specs.Chains.{Members, Chain, Sound}
use Rattle.model.specs.Refusals.{Outcome}
use Rattle.model.specs.Grants.{misfit, repeated}
use Rattle.model.specs.Model.{Model, join_outcome, just_made}
use Rattle.model.specs.Runs.{run}
use Rattle.model.specs.declared.refusal.Refusal.TheVariants.{Circle}

-- the memberships are between known accounts, no chain leads in a circle or is longer than 7, no count passes 99,999; the grants are in
-- range, no two are for the same, and there are no more than fit
pub record Standing (n capacity : ℕ) (M : Model) : Type 0 where
  pub sound : Sound n M.members
  pub fitting : some (misfit n) M.grants ≡ false
  pub once : repeated M.grants ≡ false
  pub room : length M.grants ≤ capacity

-- whatever calls are made
abbrev pub RunsStaySound : Type 0
RunsStaySound = (n capacity : ℕ) (calls : List Call) → Standing n capacity (run n capacity just_made calls)

-- refused as a circle exactly if both accounts are known and a chain leads from the member down to the group
abbrev pub CircleExactly : ℕ → Members → ℕ → ℕ → Outcome → Type 0
CircleExactly n E p c r = (r ≡ Err Circle) ↔ ((p < n) × (c < n) × ((k : ℕ) × Chain E c k p))

-- wherever a run has led, a join is refused as a circle exactly if both accounts are known and a chain leads from the member to the group
abbrev pub CirclesInRuns : Type 0
CirclesInRuns =
    (n capacity : ℕ) (calls : List Call) (p c : ℕ) →
    CircleExactly n (run n capacity just_made calls).members p c (join_outcome n (run n capacity just_made calls) p c)
