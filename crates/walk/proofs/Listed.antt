-- What stands in a list that is joined of others. Assumes nothing.
use Rattle.std.proofs.Common.{◌≡◌, ◌<◌, ◌⊎◌, List, [], ◌∷◌, map, length, refl, subst, inl, inr, arith}
use mathlib.Core.List.Memᴰ
use mathlib.Core.List.{Memᴰ}
use Rattle.lists.specs.Lists.{Once, join_all}
use Rattle.chains.proofs.Listing.{once_append}

pub join_in : {A B : Type 0} (f : A → List B) (xs : List A) {x : A} {w : B} → Memᴰ x xs → Memᴰ w (f x) → Memᴰ w (join_all f xs)
join_in f [] h m = absurd (Memᴰ.not-nil h)
join_in f (y ∷ xs) {w = w} (Memᴰ.head e) m = Memᴰ.append_left (join_all f xs) (subst (λ z. Memᴰ w (f z)) e m)
join_in f (y ∷ xs) (Memᴰ.tail h) m = Memᴰ.append_right (f y) (join_in f xs h m)

pub join_out : {A B : Type 0} (f : A → List B) (xs : List A) {w : B} → Memᴰ w (join_all f xs) → (x : A) × Memᴰ x xs × Memᴰ w (f x)
join_out f [] m = absurd (Memᴰ.not-nil m)
join_out {A} {B} f (x ∷ xs) {w} m = go (Memᴰ.append_cases (f x) m) (λ h. join_out f xs h)
  where
    go : Memᴰ w (f x) ⊎ Memᴰ w (join_all f xs) → (Memᴰ w (join_all f xs) → (y : A) × Memᴰ y xs × Memᴰ w (f y)) → (y : A) × Memᴰ y (x ∷ xs) × Memᴰ w (f y)
    go (inl h) later = (x, Memᴰ.head refl, h)
    go (inr h) later = let t = later h in (t.0, Memᴰ.tail t.1, t.2)

pub each_in : {A B : Type 0} (c : B) (xs : List A) → 0 < length xs → Memᴰ c (map (λ x. c) xs)
each_in c [] h = absurd (omega arith)
each_in c (x ∷ xs) h = Memᴰ.head refl

pub each_out : {A B : Type 0} (c : B) (xs : List A) {w : B} → Memᴰ w (map (λ x. c) xs) → (0 < length xs) × (w ≡ c)
each_out c [] m = absurd (Memᴰ.not-nil m)
each_out c (x ∷ xs) (Memᴰ.head e) = (omega arith, e)
each_out c (x ∷ xs) (Memᴰ.tail m) = (omega arith, (each_out c xs m).1)

pub once_join : {A B : Type 0} (f : A → List B) (xs : List A) → Once xs → ((x : A) → Once (f x)) → ((x y : A) (b : B) → Memᴰ b (f x) → Memᴰ b (f y) → x ≡ y) → Once (join_all f xs)
once_join f [] o each apart = tt
once_join f (x ∷ xs) o each apart =
    once_append (f x) (join_all f xs) (each x) (once_join f xs o.1 each apart)
    (λ b h k. let found = join_out f xs k in o.0 (Memᴰ.cast (apart x found.0 b h found.2) found.1))
