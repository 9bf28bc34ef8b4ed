use Rattle.std.proofs.Common.{ℕ, zero, suc, ◌+◌, ◌<◌, ◌≤◌, ⊎_elim, Option, Some, None, sym, subst, add-one, arith, rules}
use Rattle.std.specs.Option.{MatchOption, unwrap_or}
use Rattle.counts.specs.Rooms.{Largest}
use Rattle.std.proofs.lemmas.Bool.{cases_lt}
use Rattle.std.proofs.lemmas.Iterator.{first_from_Range}
use Rattle.chains.specs.Table.{size}
use Rattle.chains.proofs.Places.{square_le}
use Rattle.counts.proofs.making.largest.Goals as goal

-- so many accounts have room, and one more has not
most_of : (len n : ℕ) → n ≤ 64 → size n ≤ len → (n < 64 → len < size (n + 1)) → Largest len n
most_of len n few fits full =
    record {
      few = few;
      fits = fits;
      most = λ m few' fits'. ⊎_elim (λ (past : n < m). let over = full (omega arith) in let le = square_le (n + 1) m (omega arith) in absurd (omega arith)) (λ (le : m ≤ n). le) (cases_lt n m);
    }

-- what fits below the first that does not
last_fits : (len n : ℕ) → ((k : ℕ) → 0 ≤ k → k < n → size (k + 1) ≤ len) → size n ≤ len
last_fits len zero fits = omega arith
last_fits len (suc n) fits = subst (λ x. size x ≤ len) (add-one n) (fits n (omega arith) (omega arith))

of_first : (len : ℕ) (r : Option ℕ) →
    MatchOption r ((k : ℕ) → 0 ≤ k → k < 64 → size (k + 1) ≤ len) (λ i. (0 ≤ i) × (i < 64) × (len < size (i + 1)) × ((k : ℕ) → 0 ≤ k → k < i → size (k + 1) ≤ len)) →
    Largest len (unwrap_or r 64)
of_first len None fits = most_of len 64 (omega arith) (last_fits len 64 fits) (λ l. absurd (omega arith))
of_first len (Some n) (low, high, full, fits) = most_of len n (omega arith) (last_fits len n fits) (λ l. full)

pub returns : goal.returns
returns c =
    let first = first_from_Range _ _ _ c.find.result (λ n. c.args.len < size (n + 1)) (λ n. size (n + 1) ≤ c.args.len) c.find.ensures.ran (λ n q h. search rules) (λ n q h. search rules) in
    subst (Largest c.args.len) (sym c.unwrap_or.ensures) (of_first c.args.len c.find.result first)
