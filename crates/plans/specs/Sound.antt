-- The equipment table keeps the laws of a plan. Assumes nothing.
use Rattle.std.specs.Prelude.{◌≡◌, ℕ, zero, suc, ◌<◌, ◌≤◌, true, false, not, List, [], ◌∷◌, length, Some, None, Option, ◌==◌, nat_le, nat_lt, refl}
use Rattle.std.proofs.Common.{sym, ap, ◌∙◌, ⊎_elim, arith}
use mathlib.Core.List.Memᴰ
use Rattle.std.proofs.lemmas.Bool.{cond_both, and_parts, ltb-true, ltb-false, lt-ltb, eqb-true, eqb-false, leb-true, not-true, cond-true, cond-false, cases_lt}
use Rattle.std.specs.List.{AllByRecursion}
use Rattle.lists.specs.Lists.{Once}
use Rattle.plans.specs.declared.place.Place.{Place}
use Rattle.plans.specs.Items.{Lawful, tallest, height_of}
use Rattle.plans.specs.Equipment.{both, place_at, containers_at, height_at, equipment, all_below, twice, Good}
use Rattle.plans.specs.Heights.{height_step, tallest_same, all_same}

both_few : (a b : Option ℕ) → length (both a b) ≤ 2
both_few None None = omega arith
both_few None (Some y) = omega arith
both_few (Some x) None = omega arith
both_few (Some x) (Some y) = omega arith

both_different : (a b : Option ℕ) → twice a b ≡ false → Once (both a b)
both_different None None e = tt
both_different None (Some y) e = (Memᴰ.not-nil, tt)
both_different (Some x) None e = (Memᴰ.not-nil, tt)
both_different (Some x) (Some y) e = (λ h. eqb-false x y e (Memᴰ.eq_of_singleton h), (Memᴰ.not-nil, tt))

pub all_below_true : (item : ℕ) (cs : List ℕ) → all_below item cs ≡ true → AllByRecursion (λ c. c < item) cs
all_below_true item [] e = tt
all_below_true item (c ∷ cs) e =
    let parts = and_parts (nat_lt c item) (all_below item cs) e in
    (ltb-true c item parts.0, all_below_true item cs parts.1)

module _ (places : List Place) (filled : ℕ) (good : Good places filled) where
  pub parts : (item : ℕ) → item < filled →
      (all_below item (containers_at places item) ≡ true)
      × (twice (place_at places item).first (place_at places item).second ≡ false)
      × (height_at places item ≡ tallest (height_at places) (containers_at places item))
      × (height_at places item ≤ 7)
  parts item h =
      let p = and_parts _ (nat_le (height_at places item) 7) (good item h) in
      let q = and_parts _ (height_at places item == tallest (height_at places) (containers_at places item)) p.0 in
      let r = and_parts (all_below item (containers_at places item)) (not (twice (place_at places item).first (place_at places item).second)) q.0 in
      (r.0, not-true _ r.1, eqb-true _ _ q.1, leb-true _ _ p.1)

  -- what holds of no containers, and of those of a filled place, holds of an item's containers
  by_place : (P : List ℕ → Type 0) (item : ℕ) → P [] → (item < filled → P (containers_at places item)) → P ((equipment places filled).containers item)
  by_place P item none some =
      cond_both (nat_lt item filled) (containers_at places item) [] P (λ e. some (ltb-true item filled e)) (λ e. none)

  lower : (item : ℕ) → AllByRecursion (λ c. c < item) ((equipment places filled).containers item)
  lower item = by_place (λ xs. AllByRecursion (λ c. c < item) xs) item tt (λ h. all_below_true item (containers_at places item) (parts item h).0)

  -- a filled place has its item's height
  heights_below : (n item : ℕ) → item < n → item < filled → height_at places item ≡ height_of (equipment places filled) item
  heights_below zero item l h = absurd (omega arith)
  heights_below (suc n) item l h =
      let M = equipment places filled in
      let same : tallest (height_at places) (containers_at places item) ≡ tallest (height_of M) (containers_at places item) =
      tallest_same (height_at places) (height_of M) (containers_at places item)
      (all_same (λ c. c < item) (λ c. height_at places c ≡ height_of M c) (λ c b. heights_below n c (omega arith) (omega arith))
      (containers_at places item) (all_below_true item (containers_at places item) (parts item h).0)) in
      let above : M.containers item ≡ containers_at places item = cond-true (nat_lt item filled) (containers_at places item) [] (lt-ltb item filled h) in
      (parts item h).2 ∙ same ∙ sym (height_step M lower item ∙ ap (tallest (height_of M)) above)

  pub height_kept : (item : ℕ) → item < filled → height_at places item ≡ height_of (equipment places filled) item
  height_kept item h = heights_below (suc item) item (omega arith) h

  pub height_none : (item : ℕ) → filled ≤ item → 0 ≡ height_of (equipment places filled) item
  height_none item h =
      let M = equipment places filled in
      sym (height_step M lower item
      ∙ by_place (λ xs. tallest (height_of M) xs ≡ 0) item refl (λ l. absurd (omega arith)))

  pub equipment_lawful : filled ≤ 256 → Lawful (equipment places filled)
  equipment_lawful within = record {
    small = λ item e. let l = ltb-true item filled e in omega arith;
    unknown = λ item e. cond-false (nat_lt item filled) (containers_at places item) [] e;
    flat = λ item e. sym (height_none item (ltb-false item filled e));
    few = λ item. by_place (λ xs. length xs ≤ 2) item (omega arith) (λ h. both_few (place_at places item).first (place_at places item).second);
    different = λ item. by_place Once item tt (λ h. both_different (place_at places item).first (place_at places item).second (parts item h).1);
    placed = λ item. by_place (λ xs. AllByRecursion (λ c. nat_lt c filled ≡ true) xs) item tt
        (λ h. all_same (λ c. c < item) (λ c. nat_lt c filled ≡ true) (λ c b. lt-ltb c filled (omega arith)) (containers_at places item)
        (all_below_true item (containers_at places item) (parts item h).0));
    lower = lower;
    low = λ item. let M = equipment places filled in
        ⊎_elim (λ l. let same = height_kept item l in let most = (parts item l).3 in omega arith)
        (λ g. let same = height_none item g in omega arith) (cases_lt item filled);
  }
