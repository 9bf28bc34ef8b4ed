-- The height of an item is the length of the longest run of containers above it. Assumes nothing.
use Rattle.std.proofs.Common.{◌≡◌, ℕ, zero, suc, ◌<◌, ◌≤◌, true, ◌⊎◌, List, [], ◌∷◌, sym, refl, subst, inl, inr, ⊎_elim, arith}
use Rattle.std.specs.List.{AllByRecursion}
use Rattle.std.proofs.lemmas.Bool.{cases_lt}
use Rattle.plans.specs.Items.{Items, Lawful, tallest, height_of}
use Rattle.plans.specs.Runs.{contains, ItemChain, itself, inside, Run, Longest}
use Rattle.plans.specs.Heights.{height_step, all_same}
use Rattle.plans.proofs.Joined.{some_listed, listed_some, all_listed, listed_all}

-- the largest is above each
above_each : (f : ℕ → ℕ) (xs : List ℕ) → AllByRecursion (λ x. suc (f x) ≤ tallest f xs) xs
above_each f [] = tt
above_each f (x ∷ xs) =
    (omega arith, all_same (λ y. suc (f y) ≤ tallest f xs) (λ y. suc (f y) ≤ tallest f (x ∷ xs)) (λ y h. omega arith) xs (above_each f xs))

-- and is reached, where there is any
reached : (f : ℕ → ℕ) (P : ℕ → Type 0) (xs : List ℕ) → AllByRecursion P xs → (tallest f xs ≡ 0) ⊎ ((c : ℕ) × P c × (tallest f xs ≡ suc (f c)))
reached f P [] h = inl refl
reached f P (x ∷ xs) h =
    ⊎_elim (λ z. inr (x, h.0, omega arith))
    (λ w. ⊎_elim (λ l. inr (w.0, w.1, let e = w.2 in omega arith)) (λ g. inr (x, h.0, let e = w.2 in omega arith)) (cases_lt (suc (f x)) (suc (f w.0))))
    (reached f P xs h.1)

module _ (M : Items) (lawful : Lawful M) where
  pub most : {b k item : ℕ} → ItemChain M b k item → k ≤ height_of M item
  most itself = omega arith
  most (inside {c = c} {k = k} {o = item} e chain) =
      let rest = most chain in
      let step = height_step M lawful.lower item in
      let each = all_listed (λ c. suc (height_of M c) ≤ tallest (height_of M) (M.containers item)) (M.containers item)
      (above_each (height_of M) (M.containers item)) (some_listed c (M.containers item) e) in
      omega arith

  there : (n item : ℕ) → item < n → Run M item (height_of M item)
  there zero item l = absurd (omega arith)
  there (suc n) item l =
      let R : ℕ → Type 0 = λ k. Run M item k in
      let In : ℕ → Type 0 = λ c. (contains M c item ≡ true) × Run M c (height_of M c) in
      let each : AllByRecursion In (M.containers item) =
      listed_all In (M.containers item)
      (λ c has. (listed_some c (M.containers item) has, there n c (let b = all_listed (λ c. c < item) (M.containers item) (lawful.lower item) has in omega arith))) in
      subst R (sym (height_step M lawful.lower item))
      (⊎_elim (λ e. subst R (sym e) (item, itself)) (λ w. subst R (sym w.2) (w.1.1.0, inside w.1.0 w.1.1.1))
      (reached (height_of M) In (M.containers item) each))

  pub longest : (item : ℕ) → Longest M item (height_of M item)
  longest item = record { there = there (suc item) item (omega arith); most = λ k run. most run.1 }
