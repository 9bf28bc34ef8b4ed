use Rattle.std.proofs.Common.{◌≡◌, ℕ, ◌-◌, ◌<◌, ◌≤◌, inl, inr, ⊎_elim, arith}
use Rattle.std.proofs.lemmas.Bool.{cases_lt}
use Rattle.counts.specs.Views.{count_of}
use Rattle.counts.proofs.reading.Counts.is_too_long.Goals as goal

-- the witness of a greatest length: at length 0 the account itself
witness : (f : ℕ → ℕ → ℕ) (n p r : ℕ) → p < n → f p 0 ≡ 1 → (0 < r → (a : ℕ) × (a < n) × (0 < f a r)) →
    (a : ℕ) × (a < n) × (0 < f a r)
witness f n p r lt own some =
    elim (cases_lt 0 r) [
      | inl pos ↦ some pos
      | inr none ↦ let e : r ≡ 0 = omega arith in (p, lt, rw e (omega arith))
    ]

-- a length with a chain is at most the greatest
at_most : (f : ℕ → ℕ → ℕ) (n r : ℕ) → ((a : ℕ) → a < n → (k : ℕ) → r < k → k < 8 → f a k ≡ 0) →
    (a k : ℕ) → a < n → k < 8 → 0 < f a k → k ≤ r
at_most f n r above a k ha hk pos =
    ⊎_elim (λ (lt : r < k). omega (arith, above a ha k lt hk)) (λ (le : k ≤ r). le) (cases_lt r k)

pub returns : goal.returns
returns c =
    let v = c.args.self in let n = v.accounts in let m = c.args.c in
    let from = c.longest_from.result in let longest = c.longest_from.ensures in
    let down : ℕ → ℕ → ℕ = count_of v m in
    record {
      yes = λ e.
          let u = c.reached_by.ensures.yes e in
          let d = witness down n m from c.requires.member (c.requires.own m c.requires.member) longest.some in
          record { top = u.0; end = d.0; above = u.1; below = from; top_in = u.2; end_in = d.1; above_in = u.4; below_in = longest.bound; up = u.5; down = d.2; over = omega (arith, u.3) };
      no = λ e a s i j ha hs hi hj pu pd.
          let low : j ≤ from = at_most down n from longest.above s j hs hj pd in
          elim (cases_lt i (7 - from)) [
            | inl short ↦ omega arith
            | inr long ↦ let none = c.reached_by.ensures.no e a ha i long hi in omega arith
          ];
    }
