-- Lists of grants, no two of which are for the same account, item and right. Assumes nothing.
use Rattle.std.proofs.Common.{◌≡◌, ℕ, zero, suc, ◌<◌, Bool, true, false, not, List, [], ◌∷◌, ◌++◌, length, refl, not-suc-le-zero, arith}
use Rattle.std.specs.List.{remove, HoldsAt}
use Rattle.std.proofs.lemmas.Bool.{or_left, or_parts, or_right}
use Rattle.lists.specs.Lists.{keep, some}
use Rattle.model.specs.declared.grant.Grant.{Grant}
use Rattle.chains.proofs.Some.{some_join}
use Rattle.model.specs.Grants.{is_for, others, repeated}

module _ {A : Type 0} (f : A → Bool) where
  pub some_in : (xs : List A) (i : ℕ) → i < length xs → HoldsAt (λ x. f x ≡ true) xs i → some f xs ≡ true
  some_in [] i l h = absurd (not-suc-le-zero l)
  some_in (x ∷ xs) zero l h = or_left (f x) (some f xs) (h x)
  some_in (x ∷ xs) (suc i) l h = or_right (f x) (some f xs) (some_in xs i (omega arith) (λ d. h d))

  -- what is kept passes no test that all failed
  pub keep_none : (test : A → Bool) (xs : List A) → some f xs ≡ false → some f (keep test xs) ≡ false
  keep_none test [] e = refl
  keep_none test (x ∷ xs) e = let both = or_parts (f x) (some f xs) e in let rest = keep_none test xs both.1 in grind arith

  pub keep_all : (xs : List A) → some f xs ≡ false → keep (λ x. not (f x)) xs ≡ xs
  keep_all [] e = refl
  keep_all (x ∷ xs) e = let both = or_parts (f x) (some f xs) e in let rest = keep_all xs both.1 in grind arith

for_parts : (a i r : ℕ) (g : Grant) → is_for a i r g ≡ true → (g.account ≡ a) × (g.item ≡ i) × (g.right ≡ r)
for_parts a i r g e = grind arith

for_from : (a i r : ℕ) (g : Grant) → g.account ≡ a → g.item ≡ i → g.right ≡ r → is_for a i r g ≡ true
for_from a i r g ea ei er = grind arith

-- a grant for the same as g
abbrev pub like : Grant → Grant → Bool
like g = is_for g.account g.item g.right

pub like_back : (g h : Grant) → like g h ≡ false → like h g ≡ false
like_back g h e = grind arith

-- a test for a, i, r is one for the same as a grant that passes it
none_like : (a i r : ℕ) (g : Grant) (gs : List Grant) → is_for a i r g ≡ true → some (like g) gs ≡ false → some (is_for a i r) gs ≡ false
none_like a i r g gs e none = let same = for_parts a i r g e in rw (← same.0, ← same.1, ← same.2) none

pub repeated_push : (gs : List Grant) (g : Grant) → repeated gs ≡ false → some (is_for g.account g.item g.right) gs ≡ false → repeated (gs ++ g ∷ []) ≡ false
unfolding repeated
repeated_push [] g once new = refl
repeated_push (h ∷ gs) g once new =
    let both = or_parts (some (like h) gs) (repeated gs) once in
    let other = or_parts (like g h) (some (like g) gs) new in
    let apart = like_back g h other.0 in
    let joined = some_join (like h) gs (g ∷ []) in
    let rest = repeated_push gs g both.1 other.1 in
    grind arith

pub repeated_keep : (test : Grant → Bool) (gs : List Grant) → repeated gs ≡ false → repeated (keep test gs) ≡ false
unfolding repeated
repeated_keep test [] once = refl
repeated_keep test (g ∷ gs) once =
    let both = or_parts (some (like g) gs) (repeated gs) once in
    let apart = keep_none (like g) test gs both.0 in
    let rest = repeated_keep test gs both.1 in
    grind arith

-- the one grant for a, i and r taken out leaves the others
pub others_removed : (a i r : ℕ) (gs : List Grant) (at : ℕ) → repeated gs ≡ false → at < length gs → HoldsAt (λ g. is_for a i r g ≡ true) gs at →
    others a i r gs ≡ remove gs at
unfolding repeated
others_removed a i r [] at once l h = absurd (not-suc-le-zero l)
others_removed a i r (g ∷ gs) zero once l h =
    let both = or_parts (some (like g) gs) (repeated gs) once in
    let none = keep_all (is_for a i r) gs (none_like a i r g gs (h g) both.0) in
    let here = h g in
    grind arith
others_removed a i r (g ∷ gs) (suc at) once l h =
    let both = or_parts (some (like g) gs) (repeated gs) once in
    let there = some_in (is_for a i r) gs at (omega arith) (λ d. h d) in
    let apart : is_for a i r g ≡ true → some (is_for a i r) gs ≡ false = λ y. none_like a i r g gs y both.0 in
    let rest = others_removed a i r gs at both.1 (omega arith) (λ d. h d) in
    grind arith
