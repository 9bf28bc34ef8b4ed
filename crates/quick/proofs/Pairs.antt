-- Pairs of an account chain and an item chain, added up length by length. Assumes nothing.
use Rattle.std.proofs.Common.{◌≡◌, ℕ, ◌+◌, ◌-◌, ◌*◌, ◌<◌, ◌≤◌, cond, ◌&&◌, eqb, ltb, leb, ◌⊎◌, List, length, get_or, set, sym, ap, ◌∙◌, inl, inr, mul-le-mul, zero-mul, arith, get_or-set_other, get_or-set_same}
use Rattle.std.proofs.lemmas.Bool.{and_from, and_left, and_right, cases_eq, cases_lt, cond-false, cond-true, eq-eqb, le-leb, le-ltb, lt-leb, lt-ltb, ne_eqb}
use Rattle.lists.specs.Lists.{sum_below}
use Rattle.lists.proofs.Sums.{sum_bound, sum_one, sum_same, sum_swap, sum_zero}
use Rattle.model.specs.Counted.{products}
use Rattle.quick.specs.Sums.{reached, shifted}

module _ (j up x : ℕ) (g : ℕ → ℕ) (d : ℕ) where
  pub reached_yes : up ≤ d → d - up < j → reached j up x g d ≡ x * g (d - up)
  unfolding reached
  reached_yes l u = cond-true (leb up d && ltb (d - up) j) (x * g (d - up)) 0 (and_from (leb up d) (ltb (d - up) j) (le-leb up d l) (lt-ltb (d - up) j u))

  pub reached_low : d < up → reached j up x g d ≡ 0
  unfolding reached
  reached_low l = cond-false (leb up d && ltb (d - up) j) (x * g (d - up)) 0 (and_left (leb up d) (ltb (d - up) j) (lt-leb up d l))

  pub reached_far : j ≤ d - up → reached j up x g d ≡ 0
  unfolding reached
  reached_far l = cond-false (leb up d && ltb (d - up) j) (x * g (d - up)) 0 (and_right (leb up d) (ltb (d - up) j) (le-ltb (d - up) j l))

-- nothing is reached over fewer than 0 containers
pub reached_none : (up x : ℕ) (g : ℕ → ℕ) (d : ℕ) → reached 0 up x g d ≡ 0
reached_none up x g d = reached_far 0 up x g d (omega arith)

-- one length more adds at one distance
pub reached_more : (j up x : ℕ) (g : ℕ → ℕ) (d : ℕ) → d ≡ up + j → reached (j + 1) up x g d ≡ reached j up x g d + x * g j
reached_more j up x g d e =
    let before = reached_far j up x g d (omega arith) in
    let after = reached_yes (j + 1) up x g d (omega arith) (omega arith) in
    let here : x * g (d - up) ≡ x * g j = ap (λ i. x * g i) (omega arith) in
    omega arith

pub reached_same : (j up x : ℕ) (g : ℕ → ℕ) (d : ℕ) → (d ≡ up + j → ⊥) → reached (j + 1) up x g d ≡ reached j up x g d
reached_same j up x g d ne = split (cases_lt d up) (cases_lt (d - up) j)
  where
    split : (d < up) ⊎ (up ≤ d) → (d - up < j) ⊎ (j ≤ d - up) → reached (j + 1) up x g d ≡ reached j up x g d
    split (inl l) u = reached_low (j + 1) up x g d l ∙ sym (reached_low j up x g d l)
    split (inr l) (inl u) = reached_yes (j + 1) up x g d l (omega arith) ∙ sym (reached_yes j up x g d l u)
    split (inr l) (inr u) = reached_far (j + 1) up x g d (omega arith) ∙ sym (reached_far j up x g d u)

pub reached_few : (j up x : ℕ) (g : ℕ → ℕ) (d : ℕ) → x ≤ 99999 → ((k : ℕ) → g k ≤ 128) → reached j up x g d ≤ 12799872
reached_few j up x g d few small = split (cases_lt d up) (cases_lt (d - up) j)
  where
    split : (d < up) ⊎ (up ≤ d) → (d - up < j) ⊎ (j ≤ d - up) → reached j up x g d ≤ 12799872
    split (inl l) u = let e = reached_low j up x g d l in omega arith
    split (inr l) (inr u) = let e = reached_far j up x g d u in omega arith
    split (inr l) (inl u) =
        let e = reached_yes j up x g d l u in
        let bound : x * g (d - up) ≤ 99999 * 128 = mul-le-mul few (small (d - up)) in
        omega arith

-- without account chains there are no pairs
pub shifted_none : (up : ℕ) (g : ℕ → ℕ) (d : ℕ) → shifted up 0 g d ≡ 0
shifted_none up g d = split (cases_lt d up) (cases_lt (d - up) 8)
  where
    split : (d < up) ⊎ (up ≤ d) → (d - up < 8) ⊎ (8 ≤ d - up) → shifted up 0 g d ≡ 0
    split (inl l) u = reached_low 8 up 0 g d l
    split (inr l) (inr u) = reached_far 8 up 0 g d u
    split (inr l) (inl u) = reached_yes 8 up 0 g d l u ∙ zero-mul (g (d - up))

-- one step of adding at each length of an item chain
pub shifted_step : (before row : List ℕ) (j up x : ℕ) (g : ℕ → ℕ) → up + j < length row →
    ((d : ℕ) → d < 15 → get_or row d 0 ≡ get_or before d 0 + reached j up x g d) →
    (d : ℕ) → d < 15 → get_or (set row (up + j) (get_or row (up + j) 0 + x * g j)) d 0 ≡ get_or before d 0 + reached (j + 1) up x g d
shifted_step before row j up x g within inv d l = split (cases_eq d (up + j))
  where
    split : (d ≡ up + j) ⊎ (d ≡ up + j → ⊥) → get_or (set row (up + j) (get_or row (up + j) 0 + x * g j)) d 0 ≡ get_or before d 0 + reached (j + 1) up x g d
    split (inl e) =
        let moved = ap (λ i. get_or (set row (up + j) (get_or row (up + j) 0 + x * g j)) i 0) e in
        let new = get_or-set_same row (up + j) (get_or row (up + j) 0 + x * g j) 0 within in
        let old = inv d l in
        let place = ap (λ i. get_or row i 0) e in
        let more = reached_more j up x g d e in
        omega arith
    split (inr ne) =
        let other = get_or-set_other row (up + j) d (get_or row (up + j) 0 + x * g j) 0 ne in
        let old = inv d l in
        let same = reached_same j up x g d ne in
        omega arith

-- all pairs at a distance, length by length of the account chain
pub products_shifted : (f g : ℕ → ℕ) (d : ℕ) → sum_below 8 (λ i. shifted i (f i) g d) ≡ products f g d
unfolding products
products_shifted f g d =
    sum_same 8 (λ i. shifted i (f i) g d) (λ i. sum_below 8 (λ j. cond (eqb (i + j) d) (f i * g j) 0)) (λ i l. sym (inner i))
    ∙ sum_swap 8 8 (λ i j. cond (eqb (i + j) d) (f i * g j) 0)
  where
    other : (i j : ℕ) → (i + j ≡ d → ⊥) → cond (eqb (i + j) d) (f i * g j) 0 ≡ 0
    other i j ne = cond-false (eqb (i + j) d) (f i * g j) 0 (ne_eqb (i + j) d ne)

    inner : (i : ℕ) → sum_below 8 (λ j. cond (eqb (i + j) d) (f i * g j) 0) ≡ shifted i (f i) g d
    inner i = split (cases_lt d i) (cases_lt (d - i) 8)
      where
        split : (d < i) ⊎ (i ≤ d) → (d - i < 8) ⊎ (8 ≤ d - i) → sum_below 8 (λ j. cond (eqb (i + j) d) (f i * g j) 0) ≡ shifted i (f i) g d
        split (inl l) u = sum_zero 8 (λ j. cond (eqb (i + j) d) (f i * g j) 0) (λ j b. other i j (λ e. omega arith)) ∙ sym (reached_low 8 i (f i) g d l)
        split (inr l) (inr u) = sum_zero 8 (λ j. cond (eqb (i + j) d) (f i * g j) 0) (λ j b. other i j (λ e. omega arith)) ∙ sym (reached_far 8 i (f i) g d u)
        split (inr l) (inl u) =
            sum_one 8 (λ j. cond (eqb (i + j) d) (f i * g j) 0) (d - i) u (λ j b ne. other i j (λ e. ne (omega arith)))
            ∙ cond-true (eqb (i + (d - i)) d) (f i * g (d - i)) 0 (eq-eqb (i + (d - i)) d (omega arith))
            ∙ sym (reached_yes 8 i (f i) g d l u)

-- the pairs over the account chains of fewer than m memberships are few
pub shifted_sum_few : (m : ℕ) (f g : ℕ → ℕ) (d : ℕ) → m ≤ 8 → ((i : ℕ) → f i ≤ 99999) → ((k : ℕ) → g k ≤ 128) →
    sum_below m (λ i. shifted i (f i) g d) ≤ 102398976
shifted_sum_few m f g d l few small =
    let bound = sum_bound m (λ i. shifted i (f i) g d) 12799872 (λ i u. reached_few 8 i (f i) g d (few i) small) in
    omega arith
