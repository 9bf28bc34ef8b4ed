-- What the equipment table knows, and what adding to it answers. Assumes nothing.
use Rattle.std.proofs.Common.{◌≡◌, ℕ, zero, suc, ◌<◌, ◌≤◌, min, max, Bool, true, false, cond, not, ◌&&◌, ◌||◌, eqb, ltb, ◌⊎◌, List, [], ◌∷◌, length, Some, None, Ok, Err, Option, Result, sym, refl, ap, ◌∙◌, inl, inr, arith}
use Rattle.std.proofs.lemmas.Bool.{lt-ltb, le-ltb, eq-eqb, ne_eqb, cases_lt, cond-false}
use Rattle.std.specs.Option.{option_to_list}
use Rattle.lists.specs.Lists.{keep, below}
use Rattle.lists.proofs.Kept.{one, kept_append, kept_cons}
use Rattle.plans.specs.declared.place.Place.{Place}
use Rattle.plans.specs.declared.refusal.EquipmentRefusal.{EquipmentRefusal}
use Rattle.plans.specs.declared.refusal.EquipmentRefusal.TheVariants.{NotNext, BadContainer, TooHigh}
use Rattle.plans.specs.Items.{Items, tallest, height_of}
use Rattle.plans.specs.Equipment.{both, containers_at, equipment, all_below, twice}
use Rattle.plans.specs.Filling.{no_items, next_number, some_unknown, add_answer}

-- plans that know the same items, with the same containers, are the same
pub same_plan : (M N : Items) → ((n : ℕ) → M.known n ≡ N.known n) → ((n : ℕ) → M.containers n ≡ N.containers n) → M ≡ N
same_plan M N p q = λ i. record { known = λ n. p n i; containers = λ n. q n i }

pub none_filled : (places : List Place) → equipment places 0 ≡ no_items
none_filled places =
    same_plan (equipment places 0) no_items (λ n. le-ltb n 0 (omega arith))
    (λ n. cond-false (ltb n 0) (containers_at places n) [] (le-ltb n 0 (omega arith)))

-- of the numbers below n, as many are below a bound as the lesser of the two
below_bound : (bound n : ℕ) → length (keep (λ k. ltb k bound) (below n)) ≡ min n bound
below_bound bound zero = omega arith
below_bound bound (suc n) = split (cases_lt n bound) (below_bound bound n)
  where
    split : (n < bound) ⊎ (bound ≤ n) → length (keep (λ k. ltb k bound) (below n)) ≡ min n bound
        → length (keep (λ k. ltb k bound) (below (suc n))) ≡ min (suc n) bound
    split (inl l) before =
        let both = kept_append (λ k. ltb k bound) (below n) (n ∷ []) in
        let last = kept_cons (λ k. ltb k bound) n [] in
        let yes : one (ltb n bound) ≡ 1 = ap one (lt-ltb n bound l) in
        omega arith
    split (inr l) before =
        let both = kept_append (λ k. ltb k bound) (below n) (n ∷ []) in
        let last = kept_cons (λ k. ltb k bound) n [] in
        let none : one (ltb n bound) ≡ 0 = ap one (le-ltb n bound l) in
        omega arith

-- the number of known items is the number of filled places
pub next_is : (places : List Place) (filled : ℕ) → filled ≤ 256 → next_number (equipment places filled) ≡ filled
unfolding next_number
next_is places filled h = below_bound filled 256 ∙ lesser 256 h
  where
    lesser : (n : ℕ) → filled ≤ n → min n filled ≡ filled
    lesser n l = omega arith

-- a container of the two is unknown if the first or the second is
pub unknown_both : (M : Items) (a b : Option ℕ) → some_unknown M (both a b) ≡ (some_unknown M (option_to_list a) || some_unknown M (option_to_list b))
unknown_both M None b = refl
unknown_both M (Some x) b = or_false (not (M.known x)) (some_unknown M (option_to_list b))
  where
    or_false : (p q : Bool) → (p || q) ≡ ((p || false) || q)
    or_false true q = refl
    or_false false q = refl

-- if none is unknown, each has a lower number than the next item
pub known_below : (places : List Place) (filled : ℕ) (cs : List ℕ) → some_unknown (equipment places filled) cs ≡ false → all_below filled cs ≡ true
known_below places filled [] e = refl
known_below places filled (c ∷ cs) e = step (ltb c filled) e (known_below places filled cs)
  where
    step : (t : Bool) → (not t || some_unknown (equipment places filled) cs) ≡ false
        → (some_unknown (equipment places filled) cs ≡ false → all_below filled cs ≡ true) → (t && all_below filled cs) ≡ true
    step true e' rest = rest e'
    step false e' rest = absurd (let z : ◌≡◌ {A = ℕ} 0 1 = cc in omega arith)

pub tallest_both : (f : ℕ → ℕ) (a b : Option ℕ) → tallest f (both a b) ≡ max (tallest f (option_to_list a)) (tallest f (option_to_list b))
tallest_both f None b = omega arith
tallest_both f (Some x) b = omega arith

-- three tests, from what each came to
pub or_first : (p q t : Bool) → true ≡ p → ((p || q) || t) ≡ true
or_first p q t e = rw (← e)

pub or_second : (p q t : Bool) → false ≡ p → true ≡ q → ((p || q) || t) ≡ true
or_second p q t e f = rw (← e, ← f)

pub or_third : (p q t : Bool) → false ≡ p → false ≡ q → true ≡ t → ((p || q) || t) ≡ true
or_third p q t e f g = rw (← e, ← f, ← g)

pub or_none : (p q t : Bool) → false ≡ p → false ≡ q → false ≡ t → ((p || q) || t) ≡ false
or_none p q t e f g = rw (← e, ← f, ← g)

pub neither : (p q : Bool) → false ≡ p → false ≡ q → (p || q) ≡ false
neither p q e f = rw (← e, ← f)

-- the three checks in their order
abbrev verdict : Bool → Bool → Bool → Result (Unit {0}) EquipmentRefusal
verdict astray bad high = cond astray (Err NotNext) (cond bad (Err BadContainer) (cond high (Err TooHigh) (Ok tt)))

-- the answer, from what the checks came to
module _ (places : List Place) (filled item : ℕ) (first second : Option ℕ) (within : filled ≤ 256) where
  answer_is : (astray bad high : Bool) → (not (eqb item filled) || eqb item 256) ≡ astray
      → ((some_unknown (equipment places filled) (option_to_list first) || some_unknown (equipment places filled) (option_to_list second)) || twice first second) ≡ bad
      → ltb 7 (max (tallest (height_of (equipment places filled)) (option_to_list first)) (tallest (height_of (equipment places filled)) (option_to_list second))) ≡ high
      → verdict astray bad high ≡ add_answer (equipment places filled) item first second
  answer_is astray bad high p q r =
      let p' : (not (eqb item (next_number (equipment places filled))) || eqb item 256) ≡ astray =
      ap (λ n. not (eqb item n) || eqb item 256) (next_is places filled within) ∙ p in
      let q' : (some_unknown (equipment places filled) (both first second) || twice first second) ≡ bad =
      ap (λ b. b || twice first second) (unknown_both (equipment places filled) first second) ∙ q in
      let r' : ltb 7 (tallest (height_of (equipment places filled)) (both first second)) ≡ high =
      ap (ltb 7) (tallest_both (height_of (equipment places filled)) first second) ∙ r in
      sym (λ i. verdict (p' i) (q' i) (r' i))

  pub answer_not_next : (not (eqb item filled) || eqb item 256) ≡ true → Err NotNext ≡ add_answer (equipment places filled) item first second
  answer_not_next e = answer_is true _ _ e refl refl

  module _ (next : item ≡ filled) (room : item < 256) where
    turn : (not (eqb item filled) || eqb item 256) ≡ false
    turn = let p = eq-eqb item filled next in let q = ne_eqb item 256 (λ e. omega arith) in rw (p, q)

    pub answer_bad : ((some_unknown (equipment places filled) (option_to_list first) || some_unknown (equipment places filled) (option_to_list second)) || twice first second) ≡ true
        → Err BadContainer ≡ add_answer (equipment places filled) item first second
    answer_bad e = answer_is false true _ turn e refl

    module _ (fine : ((some_unknown (equipment places filled) (option_to_list first) || some_unknown (equipment places filled) (option_to_list second)) || twice first second) ≡ false) where
      pub answer_high : 7 < max (tallest (height_of (equipment places filled)) (option_to_list first)) (tallest (height_of (equipment places filled)) (option_to_list second))
          → Err TooHigh ≡ add_answer (equipment places filled) item first second
      answer_high h = answer_is false false true turn fine (lt-ltb 7 _ h)

      pub answer_ok : max (tallest (height_of (equipment places filled)) (option_to_list first)) (tallest (height_of (equipment places filled)) (option_to_list second)) ≤ 7
          → Ok tt ≡ add_answer (equipment places filled) item first second
      answer_ok h = answer_is false false false turn fine (le-ltb 7 _ h)
