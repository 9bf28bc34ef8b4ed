-- Laws of sums over the numbers below a bound. Assumes nothing.
use Rattle.std.proofs.Common.{◌≡◌, ℕ, zero, suc, ◌+◌, ◌*◌, ◌<◌, ◌≤◌, ◌⊎◌, sym, refl, ap, inl, inr, not-suc-le-zero, zero-mul, add-one, arith}
use Rattle.std.proofs.lemmas.Bool.{cases_eq}
use Rattle.lists.specs.Lists.{sum_below}

pub sum_same : (n : ℕ) (f g : ℕ → ℕ) → ((m : ℕ) → m < n → f m ≡ g m) → sum_below n f ≡ sum_below n g
sum_same zero f g h = refl
sum_same (suc n) f g h =
    let before : sum_below n f ≡ sum_below n g = sum_same n f g (λ m l. h m (omega arith)) in
    let last : f n ≡ g n = h n (omega arith) in
    omega arith

pub sum_zero : (n : ℕ) (f : ℕ → ℕ) → ((m : ℕ) → m < n → f m ≡ 0) → sum_below n f ≡ 0
sum_zero zero f h = refl
sum_zero (suc n) f h =
    let before : sum_below n f ≡ 0 = sum_zero n f (λ m l. h m (omega arith)) in
    let last : f n ≡ 0 = h n (omega arith) in
    omega arith

pub sum_add : (n : ℕ) (f g : ℕ → ℕ) → sum_below n (λ m. f m + g m) ≡ sum_below n f + sum_below n g
sum_add zero f g = refl
sum_add (suc n) f g = let before = sum_add n f g in omega arith

pub sum_times : (n : ℕ) (f : ℕ → ℕ) (x : ℕ) → sum_below n (λ m. f m * x) ≡ sum_below n f * x
sum_times zero f x = sym (zero-mul x)
sum_times (suc n) f x = let before = sum_times n f x in omega arith

pub sum_swap : (n k : ℕ) (f : ℕ → ℕ → ℕ) → sum_below n (λ m. sum_below k (λ i. f m i)) ≡ sum_below k (λ i. sum_below n (λ m. f m i))
sum_swap zero k f = sym (sum_zero k (λ i. 0) (λ i l. refl))
sum_swap (suc n) k f =
    let before = sum_swap n k f in
    let apart = sum_add k (λ i. sum_below n (λ m. f m i)) (λ i. f n i) in
    omega arith

-- the first summand taken out in front
pub sum_first : (n : ℕ) (f : ℕ → ℕ) → sum_below (suc n) f ≡ f 0 + sum_below n (λ i. f (suc i))
sum_first zero f = omega arith
sum_first (suc n) f = let before = sum_first n f in omega arith

-- a sum whose summands are all 0 but one
pub sum_one : (n : ℕ) (f : ℕ → ℕ) (c : ℕ) → c < n → ((m : ℕ) → m < n → (m ≡ c → ⊥) → f m ≡ 0) → sum_below n f ≡ f c
sum_one zero f c l h = absurd (not-suc-le-zero l)
sum_one (suc n) f c l h = split (cases_eq n c) (λ (l' : c < n). sum_one n f c l' (λ m k d. h m (omega arith) d))
  where
    split : (n ≡ c) ⊎ (n ≡ c → ⊥) → (c < n → sum_below n f ≡ f c) → sum_below n f + f n ≡ f c
    split (inl e) before =
        let none : sum_below n f ≡ 0 = sum_zero n f (λ m k. h m (omega arith) (omega arith)) in
        let same : f n ≡ f c = ap f e in
        omega arith
    split (inr d) before =
        let none : f n ≡ 0 = h n (omega arith) d in
        let rest : sum_below n f ≡ f c = before (omega arith) in
        omega arith

-- a summand is at most the sum
pub sum_has : (n : ℕ) (f : ℕ → ℕ) (m : ℕ) → m < n → f m ≤ sum_below n f
sum_has zero f m l = absurd (not-suc-le-zero l)
sum_has (suc n) f m l = split (cases_eq m n) (λ (l' : m < n). sum_has n f m l')
  where
    split : (m ≡ n) ⊎ (m ≡ n → ⊥) → (m < n → f m ≤ sum_below n f) → f m ≤ sum_below n f + f n
    split (inl e) before = let same : f m ≡ f n = ap f e in omega arith
    split (inr d) before = let rest : f m ≤ sum_below n f = before (omega arith) in omega arith

-- smaller summands, smaller sum
pub sum_le : (n : ℕ) (f g : ℕ → ℕ) → ((m : ℕ) → m < n → f m ≤ g m) → sum_below n f ≤ sum_below n g
sum_le zero f g h = omega arith
sum_le (suc n) f g h =
    let before : sum_below n f ≤ sum_below n g = sum_le n f g (λ m l. h m (omega arith)) in
    let last : f n ≤ g n = h n (omega arith) in
    omega arith

-- a loop's step
pub sum_more : (n : ℕ) (f : ℕ → ℕ) → sum_below (n + 1) f ≡ sum_below n f + f n
sum_more n f = ap (λ (x : ℕ). sum_below x f) (add-one n)

-- a sum is at most as large as it would be with the largest summand throughout
pub sum_bound : (n : ℕ) (f : ℕ → ℕ) (b : ℕ) → ((m : ℕ) → m < n → f m ≤ b) → sum_below n f ≤ n * b
sum_bound zero f b h = omega arith
sum_bound (suc n) f b h =
    let before : sum_below n f ≤ n * b = sum_bound n f b (λ m l. h m (omega arith)) in
    let last : f n ≤ b = h n (omega arith) in
    omega arith
