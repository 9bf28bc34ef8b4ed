-- A table while the chains past a membership are added or taken away, line by line. Assumes nothing.
use Rattle.std.proofs.Common.{◌≡◌, ℕ, ◌+◌, ◌*◌, ◌<◌, ◌≤◌, List, get_or, sym, refl, ap, ◌∙◌, ⊎_elim, arith, below_more}
use Rattle.std.proofs.lemmas.Nat.{mul-le}
use Rattle.std.proofs.lemmas.Bool.{cases_lt}
use Rattle.chains.specs.Table.{entry, place}
use Rattle.chains.proofs.Places.{line_end, line_kept}
use Rattle.counts.specs.Changes.{AllAllowed, Allowed, Way, changed, ended, made, updated}
use Rattle.counts.specs.Rows.{LowTable, at_of, row, through}
use Rattle.counts.proofs.Rows.{get_or_row, through_same, through_no_up}

pub changed_same : (way : Way) (x d y e : ℕ) → x ≡ y → d ≡ e → changed way x d ≡ changed way y e
changed_same way x d y e p q = cc

pub allowed_same : (way : Way) (x d y e : ℕ) → x ≡ y → d ≡ e → Allowed way y e → Allowed way x d
allowed_same made x d y e p q h = omega arith
allowed_same ended x d y e p q h = omega arith

pub changed_none : (way : Way) (x d : ℕ) → d ≡ 0 → changed way x d ≡ x
changed_none made x d z = omega arith
changed_none ended x d z = omega arith

pub changed_low : (way : Way) (x d : ℕ) → x ≤ 99999 → Allowed way x d → changed way x d ≤ 99999
changed_low made x d low h = h
changed_low ended x d low h = omega arith

-- t at the start, and u with the lines below a done
pub record Upto (way : Way) (t u : List ℕ) (n p c a : ℕ) : Type 0 where
  pub done : (b : ℕ) → b < a → (s k : ℕ) → s < n → k < 8 → entry u n b s k ≡ updated way t n p c b s k
  pub rest : (q : ℕ) → a * n * 8 ≤ q → get_or u q 0 ≡ get_or t q 0

module _ (way : Way) (t u : List ℕ) (n p c a : ℕ) (upto : Upto way t u n p c a) where
  -- a line that is not done yet
  pub later : (b s k : ℕ) → a ≤ b → entry u n b s k ≡ entry t n b s k
  later b s k le = upto.rest (place n b s k) (omega (arith, mul-le a n b n le (omega arith)))

  pub up_is : (up : List ℕ) → up ≡ row u n a p → (k : ℕ) → k < 8 → get_or up k 0 ≡ entry t n a p k
  up_is up e k h = ap (λ xs. get_or xs k 0) e ∙ (get_or_row u n a p k h ∙ later a p k (omega arith))

  -- the line of the member stays as it was, since no chain leads from it to the group
  pub member_kept : ((k : ℕ) → k < 8 → entry t n c p k ≡ 0) → (s k : ℕ) → s < n → k < 8 → entry u n c s k ≡ entry t n c s k
  member_kept none s k hs hk =
      ⊎_elim
      (λ (lt : c < a). upto.done c lt s k hs hk ∙ changed_none way (entry t n c s k) _ (through_no_up (entry t n c p) (entry t n c s) k (λ i l. none i (omega arith))))
      (λ (le : a ≤ c). later c s k le)
      (cases_lt c a)

  pub still_low : LowTable n t → AllAllowed way t n p c → LowTable n u
  still_low low allowed b s k hb hs hk =
      ⊎_elim
      (λ (lt : b < a). omega (arith, upto.done b lt s k hs hk, changed_low way (entry t n b s k) _ (low b s k hb hs hk) (allowed b s k hb hs hk)))
      (λ (le : a ≤ b). omega (arith, later b s k le, low b s k hb hs hk))
      (cases_lt b a)

  -- what a line gets, as it is computed from the table at hand
  pub through_is : (up : List ℕ) → up ≡ row u n a p → ((k : ℕ) → k < 8 → entry t n c p k ≡ 0) → (s k : ℕ) → s < n → k < 8 →
      through (at_of up) (entry u n c s) k ≡ through (entry t n a p) (entry t n c s) k
  through_is up e none s k hs hk =
      through_same (at_of up) (entry u n c s) (entry t n a p) (entry t n c s) k
      (λ i lt. up_is up e i (omega arith)) (λ i lt. member_kept none s i hs (omega arith))

  pub line_allowed : (up : List ℕ) → up ≡ row u n a p → ((k : ℕ) → k < 8 → entry t n c p k ≡ 0) → a < n → AllAllowed way t n p c →
      (s k : ℕ) → s < n → k < 8 → Allowed way (entry u n a s k) (through (at_of up) (entry u n c s) k)
  line_allowed up e none ha allowed s k hs hk =
      allowed_same way _ _ _ _ (later a s k (omega arith)) (through_is up e none s k hs hk) (allowed a s k ha hs hk)

  -- one more line is done
  pub line_done : (v up : List ℕ) → up ≡ row u n a p → ((k : ℕ) → k < 8 → entry t n c p k ≡ 0) →
      ((s k : ℕ) → s < n → k < 8 → entry v n a s k ≡ changed way (entry u n a s k) (through (at_of up) (entry u n c s) k)) →
      ((q : ℕ) → q < a * n * 8 → get_or v q 0 ≡ get_or u q 0) →
      ((q : ℕ) → (a * n + n) * 8 ≤ q → get_or v q 0 ≡ get_or u q 0) → Upto way t v n p c (a + 1)
  line_done v up e none sums before behind =
      record {
        done = below_more _ _
            (λ b lt s k hs hk. line_kept u v n a before behind b s k (λ (x : a ≡ b). omega arith) hs hk ∙ upto.done b lt s k hs hk)
            (λ s k hs hk. sums s k hs hk ∙ changed_same way _ _ _ _ (later a s k (omega arith)) (through_is up e none s k hs hk));
        rest = λ q le.
            let end = line_end n a (a + 1) (omega arith) in
            behind q (omega arith) ∙ upto.rest q (omega arith);
      }

  -- a line that gets nothing, since no chain leads from its account to the group
  pub line_skipped : ((k : ℕ) → k < 8 → entry t n c p k ≡ 0) → ((k : ℕ) → k < 8 → entry u n a p k ≡ 0) → Upto way t u n p c (a + 1)
  line_skipped none zero =
      line_done u (row u n a p) refl none
      (λ s k hs hk. sym (changed_none way (entry u n a s k) _ (through_no_up (at_of (row u n a p)) (entry u n c s) k
      (λ i lt. let h : i < 8 = omega arith in get_or_row u n a p i h ∙ zero i h))))
      (λ q lt. refl) (λ q le. refl)
