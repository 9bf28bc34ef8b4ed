-- From the outcome and the set or list after a call to the model's next state. Assumes nothing.
use Rattle.std.proofs.Common.{◌≡◌, ℕ, List, [], ◌∷◌, ◌++◌, Ok, Err, ap, ◌∙◌}
use Rattle.chains.specs.Chains.{Members, add, strike}
use Rattle.model.specs.Grants.{others}
use Rattle.model.specs.Model.{Model, give_outcome, given, join_outcome, joined, leave_outcome, left, withdraw_outcome, withdrawn}
use Rattle.model.specs.Refusals.{Outcome, where_accepted}
use Rattle.model.specs.declared.grant.Grant.{Grant}

-- where only the memberships change, or only the grants
members_change : (M : Model) (o : Outcome) (E F : Members) → F ≡ where_accepted o E M.members →
    ◌≡◌ {A = Model} (record { members = F; grants = M.grants }) (where_accepted o (record { members = E; grants = M.grants }) M)
members_change M (Ok u) E F e = ap {B = Model} (λ (G : Members). record { members = G; grants = M.grants }) e
members_change M (Err r) E F e = ap {B = Model} (λ (G : Members). record { members = G; grants = M.grants }) e

grants_change : (M : Model) (o : Outcome) (gs hs : List Grant) → hs ≡ where_accepted o gs M.grants →
    ◌≡◌ {A = Model} (record { members = M.members; grants = hs }) (where_accepted o (record { members = M.members; grants = gs }) M)
grants_change M (Ok u) gs hs e = ap {B = Model} (λ (xs : List Grant). record { members = M.members; grants = xs }) e
grants_change M (Err r) gs hs e = ap {B = Model} (λ (xs : List Grant). record { members = M.members; grants = xs }) e

pub shown_joined : (n : ℕ) (M : Model) (p c : ℕ) (r : Outcome) (F : Members) → r ≡ join_outcome n M p c →
    F ≡ where_accepted r (add M.members p c) M.members → ◌≡◌ {A = Model} (record { members = F; grants = M.grants }) (joined n M p c)
unfolding joined
shown_joined n M p c r F e h =
    members_change M (join_outcome n M p c) (add M.members p c) F (h ∙ ap (λ (o : Outcome). where_accepted o (add M.members p c) M.members) e)

pub shown_left : (n : ℕ) (M : Model) (p c : ℕ) (r : Outcome) (F : Members) → r ≡ leave_outcome n M p c →
    F ≡ where_accepted r (strike M.members p c) M.members → ◌≡◌ {A = Model} (record { members = F; grants = M.grants }) (left n M p c)
unfolding left
shown_left n M p c r F e h =
    members_change M (leave_outcome n M p c) (strike M.members p c) F (h ∙ ap (λ (o : Outcome). where_accepted o (strike M.members p c) M.members) e)

pub shown_given : (n capacity : ℕ) (M : Model) (g : Grant) (r : Outcome) (hs : List Grant) →
    r ≡ give_outcome n capacity M g.account g.item g.right →
    hs ≡ where_accepted r (M.grants ++ g ∷ []) M.grants → ◌≡◌ {A = Model} (record { members = M.members; grants = hs }) (given n capacity M g)
unfolding given
shown_given n capacity M g r hs e h =
    grants_change M (give_outcome n capacity M g.account g.item g.right) (M.grants ++ g ∷ []) hs
    (h ∙ ap (λ (o : Outcome). where_accepted o (M.grants ++ g ∷ []) M.grants) e)

pub shown_withdrawn : (n : ℕ) (M : Model) (a i k : ℕ) (r : Outcome) (hs : List Grant) →
    r ≡ withdraw_outcome n M a i k →
    hs ≡ where_accepted r (others a i k M.grants) M.grants → ◌≡◌ {A = Model} (record { members = M.members; grants = hs }) (withdrawn n M a i k)
unfolding withdrawn
shown_withdrawn n M a i k r hs e h =
    grants_change M (withdraw_outcome n M a i k) (others a i k M.grants) hs
    (h ∙ ap (λ (o : Outcome). where_accepted o (others a i k M.grants) M.grants) e)
