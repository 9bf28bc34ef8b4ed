-- How many elements of a list pass a test, for lists that are kept, joined and mapped; sums over a list. Assumes nothing.
use Rattle.std.proofs.Common.{◌≡◌, ℕ, zero, suc, ◌+◌, ◌*◌, ◌<◌, Bool, true, false, cond, ◌&&◌, eqb, ◌⊎◌, List, [], ◌∷◌, ◌++◌, map, length, sum_by, sym, refl, ap, ◌∙◌, inl, inr, not-suc-le-zero, arith, length-append}
use Rattle.std.proofs.lemmas.List.Sums.{sum_by-cons, sum_by_push}
use Rattle.std.proofs.lemmas.Bool.{cases_eq, eq-eqb, ne_eqb}
use Rattle.lists.specs.Lists.{keep, join_all, below, sum_below}
use Rattle.lists.proofs.Sums.{sum_zero}

abbrev pub one : Bool → ℕ
one true = 1
one false = 0

-- one place counts 1, the others 0
pub sum_at : (n e : ℕ) → e < n → sum_below n (λ d. one (eqb e d)) ≡ 1
sum_at zero e l = absurd (not-suc-le-zero l)
sum_at (suc n) e l = split (cases_eq e n) (λ (l' : e < n). sum_at n e l')
  where
    split : (e ≡ n) ⊎ (e ≡ n → ⊥) → (e < n → sum_below n (λ d. one (eqb e d)) ≡ 1) → sum_below n (λ d. one (eqb e d)) + one (eqb e n) ≡ 1
    split (inl same) before =
        let none : sum_below n (λ d. one (eqb e d)) ≡ 0 = sum_zero n (λ d. one (eqb e d)) (λ m k. ap one (ne_eqb e m (λ q. omega arith))) in
        let here : one (eqb e n) ≡ 1 = ap one (eq-eqb e n same) in
        omega arith
    split (inr other) before =
        let here : one (eqb e n) ≡ 0 = ap one (ne_eqb e n other) in
        let rest : sum_below n (λ d. one (eqb e d)) ≡ 1 = before (omega arith) in
        omega arith

pub kept_cons : {A : Type 0} (f : A → Bool) (x : A) (xs : List A) → length (keep f (x ∷ xs)) ≡ one (f x) + length (keep f xs)
kept_cons f x xs = by (f x)
  where
    by : (b : Bool) → length (cond b (x ∷ keep f xs) (keep f xs)) ≡ one b + length (keep f xs)
    by true = omega arith
    by false = omega arith

pub kept_append : {A : Type 0} (f : A → Bool) (xs ys : List A) → length (keep f (xs ++ ys)) ≡ length (keep f xs) + length (keep f ys)
kept_append f [] ys = omega arith
kept_append f (x ∷ xs) ys =
    let front = kept_cons f x (xs ++ ys) in
    let alone = kept_cons f x xs in
    let rest = kept_append f xs ys in
    omega arith

pub kept_none : {A : Type 0} (f : A → Bool) (x : A) (xs : List A) → length (keep f (x ∷ xs)) ≡ 0 → (one (f x) ≡ 0) × (length (keep f xs) ≡ 0)
kept_none f x xs e = let c = kept_cons f x xs in (omega arith, omega arith)

and_true : (b : Bool) → (b && true) ≡ b
and_true true = refl
and_true false = refl

and_false : (b : Bool) → (b && false) ≡ false
and_false true = refl
and_false false = refl

-- keeping twice is keeping what passes both
pub kept_twice : {A : Type 0} (f g : A → Bool) (xs : List A) → length (keep f (keep g xs)) ≡ length (keep (λ x. f x && g x) xs)
kept_twice f g [] = refl
kept_twice f g (x ∷ xs) = by (g x) (kept_twice f g xs) ∙ sym (kept_cons (λ x. f x && g x) x xs)
  where
    by : (c : Bool) → length (keep f (keep g xs)) ≡ length (keep (λ x. f x && g x) xs)
        → length (keep f (cond c (x ∷ keep g xs) (keep g xs))) ≡ one (f x && c) + length (keep (λ x. f x && g x) xs)
    by true e =
        let front = kept_cons f x (keep g xs) in
        let same : one (f x && true) ≡ one (f x) = ap one (and_true (f x)) in
        omega arith
    by false e = let same : one (f x && false) ≡ 0 = ap one (and_false (f x)) in omega arith

pub kept_joined : {A B : Type 0} (f : B → Bool) (g : A → List B) (xs : List A) → length (keep f (join_all g xs)) ≡ sum_by (λ x. length (keep f (g x))) xs
kept_joined f g [] = refl
kept_joined f g (x ∷ xs) =
    let both = kept_append f (g x) (join_all g xs) in
    let rest = kept_joined f g xs in
    let sum = sum_by-cons (λ x. length (keep f (g x))) x xs in
    omega arith

-- a map to one and the same element
pub kept_same : {A B : Type 0} (f : B → Bool) (y : B) (xs : List A) → length (keep f (map (λ x. y) xs)) ≡ cond (f y) (length xs) 0
kept_same f y [] = step (f y)
  where
    step : (t : Bool) → ◌≡◌ {A = ℕ} 0 (cond t 0 0)
    step true = refl
    step false = refl
kept_same {A} {B} f y (x ∷ xs) = step (f y) (kept_same f y xs)
  where
    step : (t : Bool) → length (keep f (map (λ (x : A). y) xs)) ≡ cond t (length xs) 0 →
        length (cond t (y ∷ keep f (map (λ (x : A). y) xs)) (keep f (map (λ (x : A). y) xs))) ≡ cond t (suc (length xs)) 0
    step true before = ap suc before
    step false before = before

pub length_joined : {A B : Type 0} (g : A → List B) (xs : List A) → length (join_all g xs) ≡ sum_by (λ x. length (g x)) xs
length_joined g [] = refl
length_joined g (x ∷ xs) =
    let both = length-append (g x) (join_all g xs) in
    let rest = length_joined g xs in
    let sum = sum_by-cons (λ x. length (g x)) x xs in
    omega arith

pub sum_by_same : {A : Type 0} (f g : A → ℕ) → ((x : A) → f x ≡ g x) → (xs : List A) → sum_by f xs ≡ sum_by g xs
sum_by_same f g h [] = refl
sum_by_same f g h (x ∷ xs) =
    let first = h x in
    let rest = sum_by_same f g h xs in
    let left = sum_by-cons f x xs in
    let right = sum_by-cons g x xs in
    omega arith

pub sum_by_zero : {A : Type 0} (f : A → ℕ) → ((x : A) → f x ≡ 0) → (xs : List A) → sum_by f xs ≡ 0
sum_by_zero f h [] = refl
sum_by_zero f h (x ∷ xs) =
    let first = h x in
    let rest = sum_by_zero f h xs in
    let left = sum_by-cons f x xs in
    omega arith

pub sum_by_same_all : {A : Type 0} (c : ℕ) (xs : List A) → sum_by (λ x. c) xs ≡ length xs * c
sum_by_same_all c [] = omega arith
sum_by_same_all c (x ∷ xs) =
    let rest = sum_by_same_all c xs in
    let left = sum_by-cons (λ y. c) x xs in
    omega arith

pub sum_by_below : (f : ℕ → ℕ) (n : ℕ) → sum_by f (below n) ≡ sum_below n f
sum_by_below f zero = refl
sum_by_below f (suc n) = let before = sum_by_below f n in let last = sum_by_push f (below n) n in omega arith

pub sum_by_kept : {A : Type 0} (f : A → ℕ) (test : A → Bool) (xs : List A) → sum_by f (keep test xs) ≡ sum_by (λ x. cond (test x) (f x) 0) xs
sum_by_kept f test [] = refl
sum_by_kept f test (x ∷ xs) =
    step (test x) (sum_by_kept f test xs) ∙ sym (sum_by-cons (λ x. cond (test x) (f x) 0) x xs)
  where
    step : (t : Bool) → sum_by f (keep test xs) ≡ sum_by (λ x. cond (test x) (f x) 0) xs →
        sum_by f (cond t (x ∷ keep test xs) (keep test xs)) ≡ cond t (f x) 0 + sum_by (λ x. cond (test x) (f x) 0) xs
    step true before = let first = sum_by-cons f x (keep test xs) in omega arith
    step false before = omega arith
