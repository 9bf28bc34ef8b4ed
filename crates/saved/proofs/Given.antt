-- The grants in front of one in a list that a book can hold. Assumes nothing.
use Rattle.std.proofs.Common.{◌≡◌, ℕ, zero, suc, ◌<◌, Bool, false, List, [], ◌∷◌, length, get_or, take, refl, not-suc-le-zero, arith}
use Rattle.std.proofs.lemmas.Bool.{or_from, or_parts}
use Rattle.lists.specs.Lists.{some}
use Rattle.model.specs.Grants.{is_for, repeated}
use Rattle.model.specs.declared.grant.Grant.{Grant}
use Rattle.model.proofs.Standing.{like_back}

-- where no element passes, the one at a place does not
pub none_at : {A : Type 0} (f : A → Bool) (xs : List A) (i : ℕ) (d : A) → i < length xs → some f xs ≡ false → f (get_or xs i d) ≡ false
none_at f [] i d l e = absurd (not-suc-le-zero l)
none_at f (x ∷ xs) zero d l e = (or_parts (f x) (some f xs) e).0
none_at f (x ∷ xs) (suc i) d l e = none_at f xs i d (omega arith) (or_parts (f x) (some f xs) e).1

-- where none is there twice, none in front of a place is for the same as the one there
pub new_at : (gs : List Grant) (i : ℕ) (d : Grant) → i < length gs → repeated gs ≡ false →
    some (is_for (get_or gs i d).account (get_or gs i d).item (get_or gs i d).right) (take i gs) ≡ false
unfolding repeated
new_at [] i d l once = absurd (not-suc-le-zero l)
new_at (g ∷ gs) zero d l once = refl
new_at (g ∷ gs) (suc i) d l once =
    let both = or_parts (some (is_for g.account g.item g.right) gs) (repeated gs) once in
    let h = get_or gs i d in
    or_from (is_for h.account h.item h.right g) (some (is_for h.account h.item h.right) (take i gs))
    (like_back g h (none_at (is_for g.account g.item g.right) gs i d (omega arith) both.0))
    (new_at gs i d (omega arith) both.1)
