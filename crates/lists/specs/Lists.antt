-- Lists kept in part and joined, tests over a list, and sums below a bound. Assumes nothing.
use Rattle.std.specs.Prelude.{ℕ, zero, suc, ◌+◌, Bool, true, false, cond, ◌||◌, List, [], ◌∷◌, ◌++◌}
use mathlib.Core.List.{Memᴰ}

-- the elements that pass the test, in their order
abbrev pub keep : {A : Type 0} → (A → Bool) → List A → List A
keep f [] = []
keep f (x ∷ xs) = cond (f x) (x ∷ keep f xs) (keep f xs)

-- the lists that the elements give, one behind the other
abbrev pub join_all : {A B : Type 0} → (A → List B) → List A → List B
join_all f [] = []
join_all f (x ∷ xs) = f x ++ join_all f xs

-- does an element pass the test?
abbrev pub some : {A : Type 0} → (A → Bool) → List A → Bool
some f [] = false
some f (x ∷ xs) = f x || some f xs

-- has the list any element?
abbrev pub any_at_all : {A : Type 0} → List A → Bool
any_at_all [] = false
any_at_all (x ∷ xs) = true

-- the numbers below n, in order
abbrev pub below : ℕ → List ℕ
below zero = []
below (suc n) = below n ++ (n ∷ [])

-- f 0 + f 1 + ... + f (n - 1)
abbrev pub sum_below : ℕ → (ℕ → ℕ) → ℕ
sum_below zero f = 0
sum_below (suc n) f = sum_below n f + f n

-- x stands in the list
abbrev pub Listed : {A : Type 0} → A → List A → Type 0
Listed x xs = Memᴰ x xs

-- no element stands in the list twice
abbrev pub Once : {A : Type 0} → List A → Type 0
Once [] = Unit {0}
Once (x ∷ xs) = (Listed x xs → ⊥) × Once xs
