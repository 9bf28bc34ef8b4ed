-- The model of the book: what stands after the calls so far, kept from their arguments alone. Assumes nothing.
use Rattle.std.specs.Prelude.{ℕ, Bool, not, ◌||◌, List, [], ◌∷◌, ◌++◌, length, nat_lt}
use Rattle.lists.specs.Lists.{some}
use Rattle.chains.specs.Chains.{Members, no_members, add, strike}
use Rattle.chains.specs.Tests.{leads, too_long, too_many}
use Rattle.model.specs.Refusals.{Outcome, checks, where_accepted}
use Rattle.model.specs.Grants.{is_for, others, unknown}
use Rattle.model.specs.declared.grant.Grant.{Grant}
use Rattle.model.specs.declared.refusal.Refusal.{Refusal}
use Rattle.model.specs.declared.refusal.Refusal.TheVariants.{UnknownAccount, Circle, MemberStands, ChainTooLong, CountTooLarge, NotAMember, NoSuchRight, NoSuchItem, GrantStands, BookFull, NoSuchGrant}

-- what stands: a set of memberships, and the grants in the order given
pub record Model : Type 0 where
  pub members : Members
  pub grants : List Grant

-- what stands in a book that was just made
abbrev pub just_made : Model
just_made = record { members = no_members; grants = [] }

-- what is checked before the membership of c in p is made, in this order
abbrev pub join_checks : ℕ → Members → ℕ → ℕ → List (Bool × Refusal)
join_checks n E p c =
    (unknown n p || unknown n c, UnknownAccount)
    ∷ (leads n E c p, Circle)
    ∷ (E p c, MemberStands)
    ∷ (too_long n (add E p c), ChainTooLong)
    ∷ (too_many n (add E p c), CountTooLarge)
    ∷ []

-- what is checked before it is ended
abbrev pub leave_checks : ℕ → Members → ℕ → ℕ → List (Bool × Refusal)
leave_checks n E p c = (unknown n p || unknown n c, UnknownAccount) ∷ (not (E p c), NotAMember) ∷ []

-- what the calls come to
unfoldable pub join_outcome : ℕ → Model → ℕ → ℕ → Outcome
join_outcome n M p c = checks (join_checks n M.members p c)

unfoldable pub leave_outcome : ℕ → Model → ℕ → ℕ → Outcome
leave_outcome n M p c = checks (leave_checks n M.members p c)

-- what is checked first of every account, item and right
abbrev pub out_of_range : ℕ → ℕ → ℕ → ℕ → List (Bool × Refusal)
out_of_range n a i r = (unknown n a, UnknownAccount) ∷ (nat_lt 7 r, NoSuchRight) ∷ (nat_lt 255 i, NoSuchItem) ∷ []

-- what is checked before a grant is given
abbrev pub give_checks : ℕ → ℕ → List Grant → ℕ → ℕ → ℕ → List (Bool × Refusal)
give_checks n capacity gs a i r =
    out_of_range n a i r ++ ((some (is_for a i r) gs, GrantStands) ∷ (not (nat_lt (length gs) capacity), BookFull) ∷ [])

-- what is checked before one is taken back
abbrev pub withdraw_checks : ℕ → List Grant → ℕ → ℕ → ℕ → List (Bool × Refusal)
withdraw_checks n gs a i r = out_of_range n a i r ++ ((not (some (is_for a i r) gs), NoSuchGrant) ∷ [])

unfoldable pub give_outcome : ℕ → ℕ → Model → ℕ → ℕ → ℕ → Outcome
give_outcome n capacity M a i r = checks (give_checks n capacity M.grants a i r)

unfoldable pub withdraw_outcome : ℕ → Model → ℕ → ℕ → ℕ → Outcome
withdraw_outcome n M a i r = checks (withdraw_checks n M.grants a i r)

-- what stands after the calls
unfoldable pub joined : ℕ → Model → ℕ → ℕ → Model
joined n M p c =
    where_accepted (join_outcome n M p c) (record { members = add M.members p c; grants = M.grants }) M

unfoldable pub left : ℕ → Model → ℕ → ℕ → Model
left n M p c =
    where_accepted (leave_outcome n M p c) (record { members = strike M.members p c; grants = M.grants }) M

unfoldable pub given : ℕ → ℕ → Model → Grant → Model
given n capacity M g =
    where_accepted (give_outcome n capacity M g.account g.item g.right)
    (record { members = M.members; grants = M.grants ++ (g ∷ []) }) M

unfoldable pub withdrawn : ℕ → Model → ℕ → ℕ → ℕ → Model
withdrawn n M a i r =
    where_accepted (withdraw_outcome n M a i r)
    (record { members = M.members; grants = others a i r M.grants }) M
