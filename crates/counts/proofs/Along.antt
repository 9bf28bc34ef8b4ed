-- A line of a table while the chains past a membership are added or taken away, row by row. Assumes nothing.
use Rattle.std.proofs.Common.{◌≡◌, ℕ, ◌+◌, ◌*◌, ◌<◌, ◌≤◌, List, get_or, sym, ◌∙◌, arith, below_more}
use Rattle.chains.specs.Table.{entry, place}
use Rattle.chains.proofs.Places.{line_kept}
use Rattle.counts.specs.Changes.{Allowed, Way, changed}
use Rattle.counts.specs.Rows.{at_of, row, through}
use Rattle.counts.proofs.Lines.{allowed_same, changed_none, changed_same}
use Rattle.counts.proofs.Rows.{row_kept, through_kept, through_no_down}

-- t at the start, and u with the rows from a to the accounts below s done
pub record Along (way : Way) (t u up : List ℕ) (n a c s : ℕ) : Type 0 where
  pub done : (b : ℕ) → b < s → (k : ℕ) → k < 8 → entry u n a b k ≡ changed way (entry t n a b k) (through (at_of up) (entry t n c b) k)
  pub before : (q : ℕ) → q < a * n * 8 → get_or u q 0 ≡ get_or t q 0
  pub behind : (q : ℕ) → (a * n + s) * 8 ≤ q → get_or u q 0 ≡ get_or t q 0

module _ (way : Way) (t u up : List ℕ) (n a c s : ℕ) (along : Along way t u up n a c s) (apart : a ≡ c → ⊥) (lt : s < n) where
  here : (k : ℕ) → entry u n a s k ≡ entry t n a s k
  here k = along.behind (place n a s k) (omega arith)

  -- the member's row, as it is read
  pub down_is : (down : List ℕ) → down ≡ row u n c s → (k : ℕ) → k < 8 → get_or down k 0 ≡ entry t n c s k
  down_is down e = row_kept t u down n a c s along.before along.behind apart lt e

  sum_is : (down : List ℕ) → down ≡ row u n c s → (k : ℕ) → k < 8 → through (at_of up) (at_of down) k ≡ through (at_of up) (entry t n c s) k
  sum_is down e = through_kept t u up down n a c s along.before along.behind apart lt e

  pub row_allowed : (down : List ℕ) → down ≡ row u n c s →
      ((k : ℕ) → k < 8 → Allowed way (entry t n a s k) (through (at_of up) (entry t n c s) k)) →
      (k : ℕ) → k < 8 → Allowed way (entry u n a s k) (through (at_of up) (at_of down) k)
  row_allowed down e allowed k h = allowed_same way _ _ _ _ (here k) (sum_is down e k h) (allowed k h)

  -- one more row is done
  pub row_done : (v down : List ℕ) → down ≡ row u n c s →
      ((k : ℕ) → k < 8 → entry v n a s k ≡ changed way (entry u n a s k) (through (at_of up) (at_of down) k)) →
      ((q : ℕ) → q < (a * n + s) * 8 → get_or v q 0 ≡ get_or u q 0) →
      ((q : ℕ) → (a * n + s) * 8 + 8 ≤ q → get_or v q 0 ≡ get_or u q 0) → Along way t v up n a c (s + 1)
  row_done v down e sums before behind =
      record {
        done = below_more _ _
            (λ b less k h. before (place n a b k) (omega arith) ∙ along.done b less k h)
            (λ k h. sums k h ∙ changed_same way _ _ _ _ (here k) (sum_is down e k h));
        before = λ q less. before q (omega arith) ∙ along.before q less;
        behind = λ q le. behind q (omega arith) ∙ along.behind q (omega arith);
      }

  -- a row that gets nothing, since no chain leads there from the member
  pub row_skipped : ((k : ℕ) → k < 8 → entry u n c s k ≡ 0) → Along way t u up n a c (s + 1)
  row_skipped none =
      record {
        done = below_more _ _ along.done
            (λ k h. here k ∙ sym (changed_none way (entry t n a s k) _ (through_no_down (at_of up) (entry t n c s) k
            (λ i less. let hi : i < 8 = omega arith in
            sym (line_kept t u n a along.before (λ q le. along.behind q (omega arith)) c s i apart lt hi) ∙ none i hi))));
        before = along.before;
        behind = λ q le. along.behind q (omega arith);
      }
