-- The equipment table after an accepted item. Assumes nothing.
use Rattle.std.proofs.Common.{◌≡◌, ℕ, ◌+◌, ◌<◌, ◌≤◌, true, false, not, ◌&&◌, eqb, ltb, leb, List, [], length, set, Option, sym, ap, ◌∙◌, subst, ⊎_elim, arith, get_or-set_other, get_or-set_same}
use Rattle.std.proofs.lemmas.Bool.Decides.{nat_tests}
use Rattle.std.proofs.lemmas.Bool.{and_from, lt-ltb, eq-eqb, ne_eqb, le-leb, not_from_false, cond-true, cond-false, cases_order}
use Rattle.std.specs.List.{AllByRecursion}
use Rattle.plans.specs.declared.place.Place.{Place}
use Rattle.plans.specs.Items.{tallest, height_of}
use Rattle.plans.specs.Equipment.{both, blank, place_at, containers_at, height_at, equipment, all_below, twice, good_place, Good}
use Rattle.plans.specs.Filling.{with_item, some_unknown}
use Rattle.plans.specs.Heights.{tallest_same, all_same}
use Rattle.plans.specs.Sound.{parts, all_below_true, height_kept}
use Rattle.plans.proofs.Filled.{same_plan, known_below}

good_same : (h h' : ℕ → ℕ) (item : ℕ) (p : Place) → AllByRecursion (λ c. h c ≡ h' c) (both p.first p.second) → good_place h item p ≡ good_place h' item p
good_same h h' item p e =
    ap (λ t. all_below item (both p.first p.second) && not (twice p.first p.second) && eqb p.height t && leb p.height 7)
    (tallest_same h h' (both p.first p.second) e)

-- the table after an accepted item
abbrev with_place : List Place → ℕ → Option ℕ → Option ℕ → ℕ → List Place
with_place places item first second height = set places item (record { first = first; second = second; height = height })

module _ (places : List Place) (filled item : ℕ) (first second : Option ℕ) (height : ℕ) (size : length places ≡ 256) (next : item ≡ filled) (room : item < 256) where
  at_new : place_at (with_place places item first second height) item ≡ record { first = first; second = second; height = height }
  at_new = get_or-set_same places item (record { first = first; second = second; height = height }) blank (omega arith)

  at_old : (n : ℕ) → n < filled → place_at (with_place places item first second height) n ≡ place_at places n
  at_old n l = get_or-set_other places item n (record { first = first; second = second; height = height }) blank (λ e. omega arith)

  height_old : (n : ℕ) → n < filled → height_at (with_place places item first second height) n ≡ height_at places n
  height_old n l = ap (λ (p : Place). p.height) (at_old n l)

  -- the places below are as good as they were
  good_old : Good places filled → (n : ℕ) → n < filled → good_place (height_at (with_place places item first second height)) n (place_at (with_place places item first second height) n) ≡ true
  good_old good n l =
      let heights : ℕ → ℕ = height_at (with_place places item first second height) in
      let P : Place → Type 0 = λ p. good_place heights n p ≡ true in
      subst P (sym (at_old n l))
      (good_same heights (height_at places) n (place_at places n)
      (all_same (λ c. c < n) (λ c. heights c ≡ height_at places c) (λ c b. height_old c (omega arith)) (containers_at places n)
      (all_below_true n (containers_at places n) (parts places filled good n l).0))
      ∙ good n l)

  module _ (good : Good places filled) (known : some_unknown (equipment places filled) (both first second) ≡ false) (apart : twice first second ≡ false)
      (high : height ≡ tallest (height_of (equipment places filled)) (both first second)) (low : height ≤ 7) where
    below : all_below item (both first second) ≡ true
    below = ap (λ n. all_below n (both first second)) next ∙ known_below places filled (both first second) known

    good_new : good_place (height_at (with_place places item first second height)) item (place_at (with_place places item first second height) item) ≡ true
    good_new =
        let heights : ℕ → ℕ = height_at (with_place places item first second height) in
        let P : Place → Type 0 = λ p. good_place heights item p ≡ true in
        let same : tallest (height_of (equipment places filled)) (both first second) ≡ tallest heights (both first second) =
        tallest_same (height_of (equipment places filled)) heights (both first second)
        (all_same (λ c. c < item) (λ c. height_of (equipment places filled) c ≡ heights c)
        (λ c b. sym (height_old c (omega arith) ∙ height_kept places filled good c (omega arith)))
        (both first second) (all_below_true item (both first second) below)) in
        subst P (sym at_new)
        (and_from _ _ (and_from _ _ (and_from _ _ below (not_from_false _ apart)) (eq-eqb height (tallest heights (both first second)) (high ∙ same)))
        (le-leb height 7 low))

    pub good_added : Good (with_place places item first second height) (filled + 1)
    good_added n l =
        let P : ℕ → Type 0 = λ k. good_place (height_at (with_place places item first second height)) k (place_at (with_place places item first second height) k) ≡ true in
        ⊎_elim (λ e. subst P (sym e) good_new) (⊎_elim (λ b. good_old good n (omega arith)) (λ b. absurd (omega arith))) (cases_order n item)

  pub table_added : equipment (with_place places item first second height) (filled + 1) ≡ with_item (equipment places filled) item (both first second)
  table_added =
      same_plan (equipment (with_place places item first second height) (filled + 1)) (with_item (equipment places filled) item (both first second))
      (λ n. grind (arith, nat_tests))
      (λ n. ⊎_elim (λ e. here n e) (⊎_elim (λ b. under n b) (λ b. over n b)) (cases_order n item))
    where
      places' : List Place
      places' = with_place places item first second height

      here : (n : ℕ) → n ≡ item → (equipment places' (filled + 1)).containers n ≡ (with_item (equipment places filled) item (both first second)).containers n
      here n e =
          cond-true (ltb n (filled + 1)) (containers_at places' n) [] (lt-ltb n (filled + 1) (omega arith))
          ∙ ap (λ (p : Place). both p.first p.second) (ap (place_at places') e ∙ at_new)
          ∙ sym (cond-true (eqb n item) (both first second) ((equipment places filled).containers n) (eq-eqb n item e))

      under : (n : ℕ) → n < item → (equipment places' (filled + 1)).containers n ≡ (with_item (equipment places filled) item (both first second)).containers n
      under n b =
          cond-true (ltb n (filled + 1)) (containers_at places' n) [] (lt-ltb n (filled + 1) (omega arith))
          ∙ ap (λ (p : Place). both p.first p.second) (at_old n (omega arith))
          ∙ sym (cond-false (eqb n item) (both first second) ((equipment places filled).containers n) (ne_eqb n item (λ e. omega arith))
          ∙ cond-true (ltb n filled) (containers_at places n) [] (lt-ltb n filled (omega arith)))

      over : (n : ℕ) → item < n → (equipment places' (filled + 1)).containers n ≡ (with_item (equipment places filled) item (both first second)).containers n
      over n b = grind (arith, nat_tests)
