-- Heights, where each container has a lower number than what lies in it. Assumes nothing.
use Rattle.std.specs.Prelude.{◌≡◌, ℕ, zero, suc, ◌<◌, ◌≤◌, List, [], ◌∷◌, refl}
use Rattle.std.proofs.Common.{sym, ap, ◌∙◌, arith}
use Rattle.std.specs.List.{AllByRecursion}
use Rattle.plans.specs.Items.{Items, tallest, rise, height_of}

pub tallest_same : (f g : ℕ → ℕ) (xs : List ℕ) → AllByRecursion (λ x. f x ≡ g x) xs → tallest f xs ≡ tallest g xs
tallest_same f g [] h = refl
tallest_same f g (x ∷ xs) h = let e = h.0 in let t = tallest_same f g xs h.1 in cc

pub all_same : (P Q : ℕ → Type 0) → ((x : ℕ) → P x → Q x) → (xs : List ℕ) → AllByRecursion P xs → AllByRecursion Q xs
all_same P Q f [] h = tt
all_same P Q f (x ∷ xs) h = (f x h.0, all_same P Q f xs h.1)

none_below : (xs : List ℕ) → AllByRecursion (λ c. c < 0) xs → xs ≡ []
none_below [] h = refl
none_below (x ∷ xs) h = absurd (omega (arith, h.0))

module _ (above : ℕ → List ℕ) (lower : (item : ℕ) → AllByRecursion (λ c. c < item) (above item)) where
  -- a longer limit on the run than the item's number changes nothing
  pub rise_enough : (most more item : ℕ) → item ≤ most → item ≤ more → rise above most item ≡ rise above more item
  rise_enough zero zero item p q = refl
  rise_enough zero (suc more) zero p q = sym (ap (tallest (rise above more)) (none_below (above 0) (lower 0)))
  rise_enough zero (suc more) (suc item) p q = absurd (omega arith)
  rise_enough (suc most) zero zero p q = ap (tallest (rise above most)) (none_below (above 0) (lower 0))
  rise_enough (suc most) zero (suc item) p q = absurd (omega arith)
  rise_enough (suc most) (suc more) item p q =
      tallest_same (rise above most) (rise above more) (above item)
      (all_same (λ c. c < item) (λ c. rise above most c ≡ rise above more c) (λ c l. rise_enough most more c (omega arith) (omega arith)) (above item) (lower item))

-- an item is one higher than its highest container
pub height_step : (M : Items) → ((item : ℕ) → AllByRecursion (λ c. c < item) (M.containers item)) → (item : ℕ) → height_of M item ≡ tallest (height_of M) (M.containers item)
height_step M lower item =
    rise_enough M.containers lower item (suc item) item (omega arith) (omega arith)
    ∙ tallest_same (rise M.containers item) (height_of M) (M.containers item)
    (all_same (λ c. c < item) (λ c. rise M.containers item c ≡ height_of M c) (λ c l. rise_enough M.containers lower item c c (omega arith) (omega arith)) (M.containers item) (lower item))

-- an item that lies in nothing has height 0
pub no_containers_flat : (M : Items) → ((item : ℕ) → AllByRecursion (λ c. c < item) (M.containers item)) → (item : ℕ) → M.containers item ≡ [] → height_of M item ≡ 0
no_containers_flat M lower item none = height_step M lower item ∙ ap (tallest (height_of M)) none
