-- What a test over a list tells of its elements. Assumes nothing.
use Rattle.std.proofs.Common.{◌≡◌, ℕ, zero, suc, ◌<◌, Bool, true, false, ◌||◌, ◌⊎◌, List, [], ◌∷◌, ◌++◌, length, sym, refl, ap, ◌∙◌, inl, inr, true≢false, not-suc-le-zero, arith}
use Rattle.std.proofs.lemmas.Bool.{cases_Bool, cases_eq, or_cases, or_from, or_left, or_right}
use Rattle.lists.specs.Lists.{any_at_all, below, some}

-- two tests that agree both ways
pub same_test : (r b : Bool) → (r ≡ true → b ≡ true) → (r ≡ false → b ≡ false) → r ≡ b
same_test true b when_true when_false = sym (when_true refl)
same_test false b when_true when_false = sym (when_false refl)

pub some_join : {A : Type 0} (f : A → Bool) (xs ys : List A) → some f (xs ++ ys) ≡ (some f xs || some f ys)
some_join f [] ys = refl
some_join f (x ∷ xs) ys = ap (λ (t : Bool). f x || t) (some_join f xs ys) ∙ pick (f x)
  where
    pick : (t : Bool) → (t || (some f xs || some f ys)) ≡ ((t || some f xs) || some f ys)
    pick true = refl
    pick false = refl

-- a test of the numbers below n
pub some_yes : (f : ℕ → Bool) (n k : ℕ) → k < n → f k ≡ true → some f (below n) ≡ true
some_yes f zero k l e = absurd (not-suc-le-zero l)
some_yes f (suc n) k l e = some_join f (below n) (n ∷ []) ∙ split (cases_eq k n) (λ (l' : k < n). some_yes f n k l' e)
  where
    split : (k ≡ n) ⊎ (k ≡ n → ⊥) → (k < n → some f (below n) ≡ true) → (some f (below n) || (f n || false)) ≡ true
    split (inl q) before = or_right (some f (below n)) (f n || false) (or_left (f n) false (ap f (sym q) ∙ e))
    split (inr d) before = or_left (some f (below n)) (f n || false) (before (omega arith))

pub some_no : (f : ℕ → Bool) (n : ℕ) → ((k : ℕ) → k < n → f k ≡ false) → some f (below n) ≡ false
some_no f zero h = refl
some_no f (suc n) h =
    some_join f (below n) (n ∷ [])
    ∙ or_from (some f (below n)) (f n || false) (some_no f n (λ k l. h k (omega arith))) (or_from (f n) false (h n (omega arith)) refl)

pub some_none : (f : ℕ → Bool) (n : ℕ) → some f (below n) ≡ false → (k : ℕ) → k < n → f k ≡ false
some_none f n e k l = pick (cases_Bool (f k))
  where
    pick : (f k ≡ true) ⊎ (f k ≡ false) → f k ≡ false
    pick (inl y) = absurd (true≢false (sym (some_yes f n k l y) ∙ e))
    pick (inr y) = y

pub some_found : (f : ℕ → Bool) (n : ℕ) → some f (below n) ≡ true → (k : ℕ) × (k < n) × (f k ≡ true)
some_found f zero e = absurd (true≢false (sym e))
some_found f (suc n) e = split (or_cases (some f (below n)) (f n || false) (sym (some_join f (below n) (n ∷ [])) ∙ e)) (some_found f n)
  where
    last : (f n ≡ true) ⊎ (false ≡ true) → (k : ℕ) × (k < suc n) × (f k ≡ true)
    last (inl y) = (n, omega arith, y)
    last (inr y) = absurd (true≢false (sym y))

    split : (some f (below n) ≡ true) ⊎ ((f n || false) ≡ true) → (some f (below n) ≡ true → (k : ℕ) × (k < n) × (f k ≡ true)) →
        (k : ℕ) × (k < suc n) × (f k ≡ true)
    split (inl y) before = let found = before y in (found.0, omega arith, found.2)
    split (inr y) before = last (or_cases (f n) false y)

pub any_yes : {A : Type 0} (xs : List A) → 0 < length xs → any_at_all xs ≡ true
any_yes [] l = absurd (not-suc-le-zero l)
any_yes (x ∷ xs) l = refl

pub any_no : {A : Type 0} (xs : List A) → length xs ≡ 0 → any_at_all xs ≡ false
any_no [] e = refl
any_no (x ∷ xs) e = absurd (omega arith)

pub any_found : {A : Type 0} (xs : List A) → any_at_all xs ≡ true → 0 < length xs
any_found [] e = absurd (true≢false (sym e))
any_found (x ∷ xs) e = omega arith

pub any_none : {A : Type 0} (xs : List A) → any_at_all xs ≡ false → length xs ≡ 0
any_none [] e = refl
any_none (x ∷ xs) e = absurd (true≢false e)
