-- The numbers of the refusals, and checks that are made one after the other. Assumes nothing.
use Rattle.std.specs.Prelude.{ℕ, Bool, cond, List, [], ◌∷◌, Ok, Err, Result}
use Rattle.model.specs.declared.refusal.Refusal.{Refusal}
use Rattle.model.specs.declared.refusal.Refusal.TheVariants.{UnknownAccount, Circle, MemberStands, ChainTooLong, CountTooLarge, NotAMember, NoSuchRight, NoSuchItem, GrantStands, BookFull, NoSuchGrant, ItemUnknown}

-- what a caller is told
abbrev pub refusal_number : Refusal → ℕ
refusal_number UnknownAccount = 1
refusal_number Circle = 2
refusal_number MemberStands = 3
refusal_number ChainTooLong = 4
refusal_number CountTooLarge = 5
refusal_number NotAMember = 6
refusal_number NoSuchRight = 7
refusal_number NoSuchItem = 8
refusal_number GrantStands = 9
refusal_number BookFull = 10
refusal_number NoSuchGrant = 11
refusal_number ItemUnknown = 12

-- what a call comes to that gives nothing but that it was done
abbrev pub Outcome : Type 0
Outcome = Result (Unit {0}) Refusal

-- conditions with their refusals, in the order in which they are checked: the first that holds refuses
abbrev pub checks : List (Bool × Refusal) → Outcome
checks [] = Ok tt
checks (c ∷ cs) = cond c.0 (Err c.1) (checks cs)

-- the new state where a call is accepted, and the old one where it is refused
abbrev pub where_accepted : {A : Type 0} → Outcome → A → A → A
where_accepted (Ok u) new old = new
where_accepted (Err r) new old = old

-- what holds where a call is refused
abbrev pub UnlessAccepted : Outcome → Type 0 → Type 0
UnlessAccepted (Ok u) P = Unit {0}
UnlessAccepted (Err r) P = P

-- the answer to a question that is accepted, or its refusal
abbrev pub where_answered : {A : Type 0} → Outcome → A → Result A Refusal
where_answered (Ok u) x = Ok x
where_answered (Err r) x = Err r
