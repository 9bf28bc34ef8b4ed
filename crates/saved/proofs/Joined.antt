-- What stands after an accepted join and an accepted grant. Assumes nothing.
use Rattle.std.proofs.Common.{◌≡◌, ℕ, [], ◌∷◌, ◌++◌, Ok, Err, OnOk, sym, ap, ◌∙◌}
use Rattle.chains.specs.Chains.{add}
use Rattle.model.specs.Model.{Model, give_outcome, given, join_outcome, joined}
use Rattle.model.specs.Refusals.{Outcome, where_accepted}
use Rattle.model.specs.declared.grant.Grant.{Grant}

pub joined_ok : (n : ℕ) (M : Model) (p c : ℕ) → Ok tt ≡ join_outcome n M p c → record { members = add M.members p c; grants = M.grants } ≡ joined n M p c
unfolding joined
joined_ok n M p c e = ap (λ (o : Outcome). where_accepted o (record { members = add M.members p c; grants = M.grants }) M) e

pub given_ok : (n capacity : ℕ) (M : Model) (g : Grant) → Ok tt ≡ give_outcome n capacity M g.account g.item g.right →
    record { members = M.members; grants = M.grants ++ (g ∷ []) } ≡ given n capacity M g
unfolding given
given_ok n capacity M g e = ap (λ (o : Outcome). where_accepted o (record { members = M.members; grants = M.grants ++ (g ∷ []) }) M) e

-- of what stands, the memberships, and the grants
pub joined_members : (n : ℕ) (M : Model) (p c : ℕ) → Ok tt ≡ join_outcome n M p c → (joined n M p c).members ≡ add M.members p c
unfolding joined
joined_members n M p c e =
    ap (λ (S : Model). S.members) (sym (ap (λ (o : Outcome). where_accepted o (record { members = add M.members p c; grants = M.grants }) M) e))

pub given_grants : (n capacity : ℕ) (M N : Model) (g : Grant) (r : Outcome) → r ≡ give_outcome n capacity M g.account g.item g.right → N ≡ given n capacity M g →
    OnOk r (N.grants ≡ M.grants ++ (g ∷ []))
unfolding given
given_grants n capacity M N g (Err x) e f = tt
given_grants n capacity M N g (Ok u) e f =
    ap (λ (S : Model). S.grants) (f ∙ sym (ap (λ (o : Outcome). where_accepted o (record { members = M.members; grants = M.grants ++ (g ∷ []) }) M) e))
