-- The pairs of two chains, summed by the length of the first. Assumes nothing.
use Rattle.std.proofs.Common.{◌≡◌, ℕ, ◌+◌, ◌-◌, ◌*◌, ◌<◌, ◌≤◌, cond, eqb, leb, ◌⊎◌, sym, ap, ◌∙◌, inl, inr, mul-zero, arith}
use Rattle.std.proofs.lemmas.Bool.{cases_lt, cond-true, cond-false, eq-eqb, ne_eqb, le-leb, lt-leb}
use Rattle.lists.specs.Lists.{sum_below}
use Rattle.lists.proofs.Sums.{sum_same, sum_zero, sum_one, sum_swap}
use Rattle.model.specs.Counted.{products}

-- with i fixed, one j gives the distance d, or none
pair_with : (x : ℕ) (g : ℕ → ℕ) → ((j : ℕ) → 8 ≤ j → g j ≡ 0) → (i d : ℕ) →
    sum_below 8 (λ j. cond (eqb (i + j) d) (x * g j) 0) ≡ x * cond (leb i d) (g (d - i)) 0
pair_with x g none i d = split (cases_lt d i)
  where
    other : (j : ℕ) → (i + j ≡ d → ⊥) → cond (eqb (i + j) d) (x * g j) 0 ≡ 0
    other j ne = cond-false (eqb (i + j) d) (x * g j) 0 (ne_eqb (i + j) d ne)

    reach : i ≤ d → (d - i < 8) ⊎ (8 ≤ d - i) → sum_below 8 (λ j. cond (eqb (i + j) d) (x * g j) 0) ≡ x * g (d - i)
    reach l (inl near) =
        sum_one 8 (λ j. cond (eqb (i + j) d) (x * g j) 0) (d - i) near (λ j b ne. other j (λ e. ne (omega arith)))
        ∙ cond-true (eqb (i + (d - i)) d) (x * g (d - i)) 0 (eq-eqb (i + (d - i)) d (omega arith))
    reach l (inr far) =
        sum_zero 8 (λ j. cond (eqb (i + j) d) (x * g j) 0) (λ j b. other j (λ e. omega arith))
        ∙ sym (mul-zero x) ∙ ap (λ y. x * y) (sym (none (d - i) far))

    split : (d < i) ⊎ (i ≤ d) → sum_below 8 (λ j. cond (eqb (i + j) d) (x * g j) 0) ≡ x * cond (leb i d) (g (d - i)) 0
    split (inl l) =
        sum_zero 8 (λ j. cond (eqb (i + j) d) (x * g j) 0) (λ j b. other j (λ e. omega arith))
        ∙ sym (mul-zero x) ∙ ap (λ y. x * y) (sym (cond-false (leb i d) (g (d - i)) 0 (lt-leb i d l)))
    split (inr l) =
        reach l (cases_lt (d - i) 8) ∙ ap (λ y. x * y) (sym (cond-true (leb i d) (g (d - i)) 0 (le-leb i d l)))

pub products_by_length : (f g : ℕ → ℕ) → ((j : ℕ) → 8 ≤ j → g j ≡ 0) → (d : ℕ) →
    sum_below 8 (λ i. f i * cond (leb i d) (g (d - i)) 0) ≡ products f g d
unfolding products
products_by_length f g none d =
    sym (sum_swap 8 8 (λ j i. cond (eqb (i + j) d) (f i * g j) 0)
    ∙ sum_same 8 (λ i. sum_below 8 (λ j. cond (eqb (i + j) d) (f i * g j) 0)) (λ i. f i * cond (leb i d) (g (d - i)) 0)
    (λ i l. pair_with (f i) g none i d))
