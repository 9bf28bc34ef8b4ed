-- Sums over a list of sums below a bound, and bounds on such sums. Assumes nothing.
use Rattle.std.proofs.Common.{◌≡◌, ℕ, zero, suc, ◌+◌, ◌*◌, ◌^◌, ◌<◌, ◌≤◌, cond, eqb, ◌⊎◌, List, [], ◌∷◌, sum_by, sym, refl, ap, ◌∙◌, inl, inr, add-mul, zero-mul, arith}
use Rattle.std.specs.List.{AllByRecursion}
use Rattle.std.proofs.lemmas.List.Sums.{sum_by-cons}
use Rattle.std.proofs.lemmas.Bool.{cases_lt, cases_eq, ne_eqb, cond-false, cond_both}
use Rattle.lists.specs.Lists.{sum_below}
use Rattle.lists.proofs.Sums.{sum_same, sum_zero, sum_add}

pub sum_by_same_on : {A : Type 0} (f g : A → ℕ) (xs : List A) → AllByRecursion (λ x. f x ≡ g x) xs → sum_by f xs ≡ sum_by g xs
sum_by_same_on f g [] a = refl
sum_by_same_on f g (x ∷ xs) a =
    let first = a.0 in
    let rest = sum_by_same_on f g xs a.1 in
    let left = sum_by-cons f x xs in
    let right = sum_by-cons g x xs in
    omega arith

pub sum_by_times : {A : Type 0} (f : A → ℕ) (y : ℕ) (xs : List A) → sum_by (λ x. f x * y) xs ≡ sum_by f xs * y
sum_by_times f y [] = sym (zero-mul y)
sum_by_times f y (x ∷ xs) =
    let rest = sum_by_times f y xs in
    let left = sum_by-cons (λ x. f x * y) x xs in
    left ∙ ap (λ z. f x * y + z) rest ∙ sym (add-mul (f x) (sum_by f xs) y) ∙ ap (λ z. z * y) (sym (sum_by-cons f x xs))

pub sum_by_swap : {A : Type 0} (n : ℕ) (f : A → ℕ → ℕ) (xs : List A) → sum_by (λ x. sum_below n (f x)) xs ≡ sum_below n (λ i. sum_by (λ x. f x i) xs)
sum_by_swap n f [] = sym (sum_zero n (λ i. 0) (λ i l. refl))
sum_by_swap n f (x ∷ xs) =
    let rest = sum_by_swap n f xs in
    sum_by-cons (λ x. sum_below n (f x)) x xs
    ∙ ap (λ z. sum_below n (f x) + z) rest
    ∙ sym (sum_add n (f x) (λ i. sum_by (λ y. f y i) xs))
    ∙ sum_same n (λ i. f x i + sum_by (λ y. f y i) xs) (λ i. sum_by (λ y. f y i) (x ∷ xs)) (λ i l. sym (sum_by-cons (λ y. f y i) x xs))

-- at most one number is a given one
pub sum_at_most_one : (n o : ℕ) → sum_below n (λ b. cond (eqb b o) 1 0) ≤ 1
sum_at_most_one zero o = omega arith
sum_at_most_one (suc n) o = split (cases_eq n o) (sum_at_most_one n o)
  where
    apart : (b : ℕ) → (b ≡ o → ⊥) → ◌≡◌ {A = ℕ} (cond (eqb b o) 1 0) 0
    apart b ne = cond-false (eqb b o) 1 0 (ne_eqb b o ne)

    split : (n ≡ o) ⊎ (n ≡ o → ⊥) → sum_below n (λ b. cond (eqb b o) 1 0) ≤ 1 → sum_below (suc n) (λ b. cond (eqb b o) 1 0) ≤ 1
    split (inl e) before =
        let none : sum_below n (λ b. cond (eqb b o) 1 0) ≡ 0 = sum_zero n (λ b. cond (eqb b o) 1 0) (λ b l. apart b (λ q. omega arith)) in
        let last : cond (eqb n o) 1 0 ≤ 1 = cond_both (eqb n o) 1 0 (λ x. x ≤ 1) (λ q. omega arith) (λ q. omega arith) in
        omega arith
    split (inr ne) before = let last = apart n ne in omega arith

-- a shorter sum is no larger
pub sum_fewer : (f : ℕ → ℕ) (a b : ℕ) → a ≤ b → sum_below a f ≤ sum_below b f
sum_fewer f a zero l = let same : a ≡ 0 = omega arith in let e : sum_below a f ≡ sum_below 0 f = ap (λ n. sum_below n f) same in omega arith
sum_fewer f a (suc b) l = split (cases_lt a (suc b)) (sum_fewer f a b)
  where
    split : (a < suc b) ⊎ (suc b ≤ a) → (a ≤ b → sum_below a f ≤ sum_below b f) → sum_below a f ≤ sum_below (suc b) f
    split (inl h) before = let r = before (omega arith) in omega arith
    split (inr h) before = let same : a ≡ suc b = omega arith in let e : sum_below a f ≡ sum_below (suc b) f = ap (λ n. sum_below n f) same in omega arith

-- summands that are all 0 from 8 on add nothing
pub sum_to_eight : (m : ℕ) (f : ℕ → ℕ) → ((k : ℕ) → 8 ≤ k → f k ≡ 0) → sum_below m f ≤ sum_below 8 f
sum_to_eight zero f none = sum_fewer f 0 8 (omega arith)
sum_to_eight (suc m) f none = split (cases_lt m 8) (sum_to_eight m f none)
  where
    split : (m < 8) ⊎ (8 ≤ m) → sum_below m f ≤ sum_below 8 f → sum_below (suc m) f ≤ sum_below 8 f
    split (inl h) before = sum_fewer f (suc m) 8 (omega arith)
    split (inr h) before = let z = none m h in omega arith

-- summands of at most 1, 2, 4 and so on
pub sum_of_powers : (f : ℕ → ℕ) → ((k : ℕ) → f k ≤ 2 ^ k) → sum_below 8 f ≤ 255
sum_of_powers f h =
    let a = h 0 in let b = h 1 in let c = h 2 in let d = h 3 in let e = h 4 in let g = h 5 in let i = h 6 in let j = h 7 in
    omega arith
