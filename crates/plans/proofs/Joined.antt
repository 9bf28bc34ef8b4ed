-- Lists joined from what each element gives, and lists in which nothing stands twice. Assumes nothing.
use Rattle.std.proofs.Common.{◌≡◌, ℕ, Bool, true, false, ◌||◌, eqb, List, [], ◌∷◌, ◌++◌, map, sym, refl, subst, ⊎_elim, arith}
use mathlib.Core.List.Memᴰ
use Rattle.std.proofs.lemmas.Bool.{eqb-true, eq-eqb}
use Rattle.std.specs.List.{AllByRecursion}
use Rattle.lists.specs.Lists.{Listed, Once, join_all, some}

pub once_append : {A : Type 0} (xs ys : List A) → Once xs → Once ys → ((x : A) → Listed x xs → Listed x ys → ⊥) → Once (xs ++ ys)
once_append [] ys ox oy apart = oy
once_append (x ∷ xs) ys ox oy apart = (
  λ h. ⊎_elim ox.0 (apart x (Memᴰ.head refl)) (Memᴰ.append_cases xs h),
  once_append xs ys ox.1 oy (λ z h k. apart z (Memᴰ.tail h) k),
)

pub once_map : {A B : Type 0} (f : A → B) → ((x y : A) → f x ≡ f y → x ≡ y) → (xs : List A) → Once xs → Once (map f xs)
once_map f inj [] o = tt
once_map f inj (x ∷ xs) o =
    (λ h. let from = Memᴰ.of_map f xs h in o.0 (Memᴰ.cast (sym (inj from.0 x from.2)) from.1), once_map f inj xs o.1)

module _ {A B : Type 0} (f : A → List B) where
  pub joined_cases : (xs : List A) {b : B} → Listed b (join_all f xs) → (x : A) × Listed x xs × Listed b (f x)
  joined_cases [] h = absurd (Memᴰ.not-nil h)
  joined_cases (x ∷ xs) h =
      ⊎_elim (λ m. (x, Memᴰ.head refl, m))
      (λ m. let later = joined_cases xs m in (later.0, Memᴰ.tail later.1, later.2))
      (Memᴰ.append_cases (f x) h)

  pub joined_has : (xs : List A) {x : A} {b : B} → Listed x xs → Listed b (f x) → Listed b (join_all f xs)
  joined_has [] h m = absurd (Memᴰ.not-nil h)
  joined_has (y ∷ ys) {x} {b} h m =
      ⊎_elim (λ same. Memᴰ.append_left (join_all f ys) (subst (λ (z : A). Listed b (f z)) same m))
      (λ later. Memᴰ.append_right (f y) (joined_has ys later m))
      (Memᴰ.cases_cons h)

  pub once_joined : (xs : List A) → Once xs → ((x : A) → Once (f x)) → ((x y : A) (b : B) → Listed b (f x) → Listed b (f y) → x ≡ y) → Once (join_all f xs)
  once_joined [] o each apart = tt
  once_joined (x ∷ xs) o each apart =
      once_append (f x) (join_all f xs) (each x) (once_joined xs o.1 each apart)
      (λ b h k. let found = joined_cases xs k in o.0 (Memᴰ.cast (apart x found.0 b h found.2) found.1))

-- a number stands in a list if the test for it says so
pub some_listed : (x : ℕ) (xs : List ℕ) → some (eqb x) xs ≡ true → Listed x xs
some_listed x [] e = absurd (let z : ◌≡◌ {A = ℕ} 0 1 = cc in omega arith)
some_listed x (y ∷ ys) e = step (eqb x y) refl (some_listed x ys) e
  where
    step : (t : Bool) → eqb x y ≡ t → (some (eqb x) ys ≡ true → Listed x ys) → (t || some (eqb x) ys) ≡ true → Listed x (y ∷ ys)
    step true q later e' = Memᴰ.head (eqb-true x y q)
    step false q later e' = Memᴰ.tail (later e')

pub listed_some : (x : ℕ) (xs : List ℕ) → Listed x xs → some (eqb x) xs ≡ true
listed_some x [] h = absurd (Memᴰ.not-nil h)
listed_some x (y ∷ ys) h = ⊎_elim (λ same. rw (eq-eqb x y same)) (λ later. or_true (eqb x y) (listed_some x ys later)) (Memᴰ.cases_cons h)
  where
    or_true : (t : Bool) {u : Bool} → u ≡ true → (t || u) ≡ true
    or_true true e = refl
    or_true false e = e

pub all_listed : {A : Type 0} (P : A → Type 0) {x : A} (xs : List A) → AllByRecursion P xs → Listed x xs → P x
all_listed P [] a h = absurd (Memᴰ.not-nil h)
all_listed P (y ∷ ys) a h = ⊎_elim (λ same. subst P (sym same) a.0) (λ later. all_listed P ys a.1 later) (Memᴰ.cases_cons h)

-- what holds of each listed element holds of all
pub listed_all : {A : Type 0} (P : A → Type 0) (xs : List A) → ((x : A) → Listed x xs → P x) → AllByRecursion P xs
listed_all P [] f = tt
listed_all P (x ∷ xs) f = (f x (Memᴰ.head refl), listed_all P xs (λ y h. f y (Memᴰ.tail h)))
