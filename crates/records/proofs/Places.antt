-- The place of an element that passes a test, and a list without the element at a place. Assumes nothing.
use Rattle.std.proofs.Common.{◌≡◌, ℕ, ◌+◌, ◌-◌, ◌<◌, ◌≤◌, Bool, false, ltb, List, [], ◌∷◌, ◌++◌, length, take, drop, Some, is_some, sym, refl, ap, ◌∙◌, arith, zero, suc, ap₂, add-one}
use Rattle.std.specs.List.{copy_within, position, position_or_len, remove}
use Rattle.std.proofs.lemmas.List.Quantifiers.{position-Some}
use Rattle.std.proofs.lemmas.Bool.{or_parts}
use Rattle.std.proofs.lemmas.List.{drop-take, length-take-le, take-append-le, take-take, take_all}
use Rattle.std.proofs.lemmas.List.Edits.{length-remove}
use Rattle.lists.specs.Lists.{some}
use Rattle.model.specs.declared.grant.Grant.{Grant}
use Rattle.model.specs.Grants.{is_for, others, repeated}
use Rattle.model.proofs.Standing.{others_removed}

remove_none : {A : Type 0} (at : ℕ) → remove {X = A} [] at ≡ []
remove_none zero = refl
remove_none (suc at) = refl

module _ {A : Type 0} (f : A → Bool) where
  within : (xs : List A) → ltb (position_or_len f xs) (length xs) ≡ some f xs
  within [] = refl
  within (x ∷ xs) = let rest = within xs in grind arith

  -- there is a place exactly if an element passes the test
  pub is_some_position : (xs : List A) → is_some (position f xs) ≡ some f xs
  is_some_position xs = let there = within xs in grind arith

  -- where none passes the test, none of the rest does
  pub some_remove : (xs : List A) (at : ℕ) → some f xs ≡ false → some f (remove xs at) ≡ false
  some_remove [] at e = ap (some f) (remove_none at)
  some_remove (x ∷ xs) zero e = (or_parts (f x) (some f xs) e).1
  some_remove (x ∷ xs) (suc at) e = let both = or_parts (f x) (some f xs) e in let rest = some_remove xs at both.1 in grind arith

-- where no two are for the same, no two of the rest are
pub repeated_remove : (gs : List Grant) (at : ℕ) → repeated gs ≡ false → repeated (remove gs at) ≡ false
unfolding repeated
repeated_remove [] at e = ap repeated (remove_none at)
repeated_remove (g ∷ gs) zero e = (or_parts (some (is_for g.account g.item g.right) gs) (repeated gs) e).1
repeated_remove (g ∷ gs) (suc at) e =
    let both = or_parts (some (is_for g.account g.item g.right) gs) (repeated gs) e in
    let apart = some_remove (is_for g.account g.item g.right) gs at both.0 in
    let rest = repeated_remove gs at both.1 in
    grind arith

-- the list without the one grant for a, i and r is the others
pub found_others : (a i r : ℕ) (gs : List Grant) (at : ℕ) → repeated gs ≡ false → position (is_for a i r) gs ≡ Some at → remove gs at ≡ others a i r gs
found_others a i r [] at once e = remove_none at
found_others a i r (g ∷ gs) at once e =
    let found = position-Some (is_for a i r) (g ∷ gs) at g e in
    sym (others_removed a i r (g ∷ gs) at once found.0 (λ d. (position-Some (is_for a i r) (g ∷ gs) at d e).1))

last_removed : {X : Type 0} (xs : List X) (m : ℕ) → take m xs ≡ remove (take (suc m) xs) m
last_removed [] zero = refl
last_removed [] (suc m) = refl
last_removed (x ∷ xs) zero = refl
last_removed (x ∷ xs) (suc m) = ap (λ ys. x ∷ ys) (last_removed xs m)

-- the first n places without the last of them
pub without_last : {X : Type 0} (xs : List X) (n : ℕ) → 0 < n → take (n - 1) xs ≡ remove (take n xs) (n - 1)
without_last xs n lt = let e : suc (n - 1) ≡ n = omega arith in last_removed xs (n - 1) ∙ ap (λ (m : ℕ). remove (take m xs) (n - 1)) e

module _ {X : Type 0} (xs : List X) (at n : ℕ) (lt : at < n) (le : n ≤ length xs) where
  -- the gap at a place of the first n, closed by moving those behind it to the front
  pub gap_closed : copy_within xs (at + 1) n at ≡ remove (take n xs) at ++ drop (n - 1) xs
  gap_closed =
      let k = n - (at + 1) in
      let all : at + 1 + k ≡ n = omega arith in
      let before : take at xs ≡ take at (take n xs) = sym (take-take at n xs (omega arith)) in
      let moved : take k (drop (at + 1) xs) ≡ drop (suc at) (take n xs) =
      sym (drop-take (at + 1) k xs) ∙ ap (λ (m : ℕ). drop (at + 1) (take m xs)) all ∙ ap (λ (m : ℕ). drop m (take n xs)) (add-one at) in
      let last : at + k ≡ n - 1 = omega arith in
      ap₂ (λ (ys zs : List X). ys ++ zs) (ap₂ (λ (ys zs : List X). ys ++ zs) before moved) (ap (λ (m : ℕ). drop m xs) last)

  -- what then stands
  pub gap_front : (ys : List X) → ys ≡ copy_within xs (at + 1) n at → take (n - 1) ys ≡ remove (take n xs) at
  gap_front ys e =
      let left = remove (take n xs) at in
      let front = length-take-le n xs le in
      let long = length-remove (take n xs) at (omega arith) in
      ap (λ (zs : List X). take (n - 1) zs) (e ∙ gap_closed)
      ∙ take-append-le (n - 1) left (drop (n - 1) xs) (omega arith) ∙ take_all (n - 1) left (omega arith)
