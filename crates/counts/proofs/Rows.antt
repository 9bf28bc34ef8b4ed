-- Rows of counts as they are read from a table, and the sums over two of them. Assumes nothing.
use Rattle.std.proofs.Common.{◌≡◌, ℕ, ◌+◌, ◌-◌, ◌*◌, ◌<◌, ◌≤◌, List, get_or, refl, ap, ◌∙◌, ap₂, mul-zero, zero-mul, arith}
use Rattle.std.proofs.lemmas.List.{get_or-take, get_or-drop}
use Rattle.lists.proofs.Sums.{sum_same, sum_zero}
use Rattle.chains.specs.Table.{entry}
use Rattle.chains.proofs.Places.{line_kept}
use Rattle.counts.specs.Rows.{Low, LowTable, at_of, count_after, row, through}

pub get_or_row : (t : List ℕ) (n a s k : ℕ) → k < 8 → get_or (row t n a s) k 0 ≡ entry t n a s k
get_or_row t n a s k h = rw (get_or-take, get_or-drop)

-- the row of another line, as it is read while the line of a is written up to s
pub row_kept : (t u down : List ℕ) (n a b s : ℕ) →
    ((q : ℕ) → q < a * n * 8 → get_or u q 0 ≡ get_or t q 0) →
    ((q : ℕ) → (a * n + s) * 8 ≤ q → get_or u q 0 ≡ get_or t q 0) →
    (a ≡ b → ⊥) → s < n → down ≡ row u n b s → (k : ℕ) → k < 8 → get_or down k 0 ≡ entry t n b s k
row_kept t u down n a b s before behind ne hs e k hk =
    ap (λ xs. get_or xs k 0) e ∙ (get_or_row u n b s k hk ∙ line_kept t u n a before (λ q le. behind q (omega arith)) b s k ne hs hk)

-- no chain of length 0 goes past a membership
pub through_start : (up down : ℕ → ℕ) → through up down 0 ≡ 0
unfolding through
through_start up down = refl

-- only the counts below k matter
pub through_same : (up down up' down' : ℕ → ℕ) (k : ℕ) → ((i : ℕ) → i < k → up i ≡ up' i) →
    ((i : ℕ) → i < k → down i ≡ down' i) → through up down k ≡ through up' down' k
unfolding through
through_same up down up' down' k hu hd =
    sum_same k (λ i. up i * down (k - 1 - i)) (λ i. up' i * down' (k - 1 - i))
    (λ i lt. ap₂ (λ (x y : ℕ). x * y) (hu i lt) (hd (k - 1 - i) (omega arith)))

pub through_no_up : (up down : ℕ → ℕ) (k : ℕ) → ((i : ℕ) → i < k → up i ≡ 0) → through up down k ≡ 0
unfolding through
through_no_up up down k h = sum_zero k (λ i. up i * down (k - 1 - i)) (λ i lt. rw (h i lt) (zero-mul _))

pub through_no_down : (up down : ℕ → ℕ) (k : ℕ) → ((i : ℕ) → i < k → down i ≡ 0) → through up down k ≡ 0
unfolding through
through_no_down up down k h = sum_zero k (λ i. up i * down (k - 1 - i)) (λ i lt. rw (h (k - 1 - i) (omega arith)) (mul-zero _))

-- the sum over a row of another line that is read while the line of a is written up to s
pub through_kept : (t u up down : List ℕ) (n a b s : ℕ) →
    ((q : ℕ) → q < a * n * 8 → get_or u q 0 ≡ get_or t q 0) →
    ((q : ℕ) → (a * n + s) * 8 ≤ q → get_or u q 0 ≡ get_or t q 0) →
    (a ≡ b → ⊥) → s < n → down ≡ row u n b s → (k : ℕ) → k < 8 →
    through (at_of up) (at_of down) k ≡ through (at_of up) (entry t n b s) k
through_kept t u up down n a b s before behind ne hs e k hk =
    through_same (at_of up) (at_of down) (at_of up) (entry t n b s) k (λ i lt. refl)
    (λ i lt. row_kept t u down n a b s before behind ne hs e i (omega arith))

-- a row as it is read from the table
module _ (t down : List ℕ) (n b s : ℕ) (e : down ≡ row t n b s) where
  pub row_is : (k : ℕ) → k < 8 → at_of down k ≡ entry t n b s k
  row_is k h = ap (λ xs. get_or xs k 0) e ∙ get_or_row t n b s k h

  pub through_row : (up : ℕ → ℕ) (k : ℕ) → k < 8 → through up (at_of down) k ≡ through up (entry t n b s) k
  through_row up k h = through_same up (at_of down) up (entry t n b s) k (λ i lt. refl) (λ i lt. row_is i (omega arith))

  pub through_up_row : (below : ℕ → ℕ) (k : ℕ) → k < 8 → through (at_of down) below k ≡ through (entry t n b s) below k
  through_up_row below k h = through_same (at_of down) below (entry t n b s) below k (λ i lt. row_is i (omega arith)) (λ i lt. refl)

  pub row_low : LowTable n t → b < n → s < n → Low down
  row_low low hb hs k h = omega (arith, row_is k h, low b s k hb hs h)

-- a count after a membership is made, from three rows as they are read
module _ (t xs up down : List ℕ) (n a s p c : ℕ) (is : xs ≡ row t n a s) (is_up : up ≡ row t n a p) (is_down : down ≡ row t n c s) where
  pub after_is : (k : ℕ) → k < 8 → get_or xs k 0 + through (at_of up) (at_of down) k ≡ count_after t n p c a s k
  after_is k h =
      ap₂ (λ (x y : ℕ). x + y) (row_is t xs n a s is k h)
      (through_same (at_of up) (at_of down) (entry t n a p) (entry t n c s) k
      (λ i l. row_is t up n a p is_up i (omega arith)) (λ i l. row_is t down n c s is_down i (omega arith)))
