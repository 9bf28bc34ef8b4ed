-- The sum over a list does not depend on its order. Assumes nothing.
use Rattle.std.proofs.Common.{◌≡◌, ◌⊎◌, List, [], ◌∷◌, map, sym, refl, ap, ◌∙◌, inl, inr, ⊎_elim}
use mathlib.Core.List.Memᴰ
use mathlib.Core.List.{Memᴰ}
use Rattle.lists.specs.Lists.{Once}
use Rattle.walk.specs.Weights.{Laws, total}

-- the list with one element taken out
abbrev without : {A : Type 0} {x : A} (ys : List A) → Memᴰ x ys → List A
without [] m = absurd (Memᴰ.not-nil m)
without (y ∷ ys) (Memᴰ.head e) = ys
without (y ∷ ys) (Memᴰ.tail m) = y ∷ without ys m

without_in : {A : Type 0} {x z : A} (ys : List A) (m : Memᴰ x ys) → Memᴰ z (without ys m) → Memᴰ z ys
without_in [] m h = absurd (Memᴰ.not-nil m)
without_in (y ∷ ys) (Memᴰ.head e) h = Memᴰ.tail h
without_in (y ∷ ys) (Memᴰ.tail m) (Memᴰ.head e) = Memᴰ.head e
without_in (y ∷ ys) (Memᴰ.tail m) (Memᴰ.tail h) = Memᴰ.tail (without_in ys m h)

without_has : {A : Type 0} {x z : A} (ys : List A) (m : Memᴰ x ys) → Memᴰ z ys → (z ≡ x) ⊎ Memᴰ z (without ys m)
without_has [] m h = absurd (Memᴰ.not-nil m)
without_has (y ∷ ys) (Memᴰ.head e) (Memᴰ.head f) = inl (f ∙ sym e)
without_has (y ∷ ys) (Memᴰ.head e) (Memᴰ.tail h) = inr h
without_has (y ∷ ys) (Memᴰ.tail m) (Memᴰ.head f) = inr (Memᴰ.head f)
without_has (y ∷ ys) (Memᴰ.tail m) (Memᴰ.tail h) = ⊎_elim inl (λ k. inr (Memᴰ.tail k)) (without_has ys m h)

once_without : {A : Type 0} {x : A} (ys : List A) (m : Memᴰ x ys) → Once ys → Once (without ys m) × (Memᴰ x (without ys m) → ⊥)
once_without [] m o = absurd (Memᴰ.not-nil m)
once_without (y ∷ ys) (Memᴰ.head e) o = (o.1, λ h. o.0 (Memᴰ.cast (sym e) h))
once_without (y ∷ ys) (Memᴰ.tail m) o =
    let r = once_without ys m o.1 in
    ((λ h. o.0 (without_in ys m h), r.0), λ h. ⊎_elim (λ e. o.0 (Memᴰ.cast (sym e) m)) r.1 (Memᴰ.cases_cons h))

module _ {W : Type 0} {none : W} {add : W → W → W} {next : W → W} (laws : Laws none add next) {A : Type 0} (f : A → W) where
  total_without : {x : A} (ys : List A) (m : Memᴰ x ys) → total none add (map f ys) ≡ add (f x) (total none add (map f (without ys m)))
  total_without [] m = absurd (Memᴰ.not-nil m)
  total_without (y ∷ ys) (Memᴰ.head e) = ap (λ z. add (f z) (total none add (map f ys))) (sym e)
  total_without {x} (y ∷ ys) (Memᴰ.tail m) =
      let rest = total none add (map f (without ys m)) in
      ap (add (f y)) (total_without ys m) ∙ sym (laws.assoc (f y) (f x) rest) ∙ ap (λ z. add z rest) (laws.comm (f y) (f x)) ∙ laws.assoc (f x) (f y) rest

  -- two lists with the same elements, each once, have the same sum
  pub same_total : (xs ys : List A) → Once xs → Once ys → ((x : A) → Memᴰ x xs → Memᴰ x ys) → ((x : A) → Memᴰ x ys → Memᴰ x xs) → total none add (map f xs) ≡ total none add (map f ys)
  same_total [] [] o p into back = refl
  same_total [] (y ∷ ys) o p into back = absurd (Memᴰ.not-nil (back y (Memᴰ.head refl)))
  same_total (x ∷ xs) ys o p into back =
      let m = into x (Memᴰ.head refl) in
      let r = once_without ys m p in
      ap (add (f x))
      (same_total xs (without ys m) o.1 r.0
      (λ z h. ⊎_elim (λ e. absurd (o.0 (Memᴰ.cast (sym e) h))) (λ k. k) (without_has ys m (into z (Memᴰ.tail h))))
      (λ z h. ⊎_elim (λ e. absurd (r.1 (Memᴰ.cast (sym e) h))) (λ k. k) (Memᴰ.cases_cons (back z (without_in ys m h)))))
      ∙ sym (total_without ys m)
