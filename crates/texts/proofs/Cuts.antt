-- The first line of a text, and what stands behind it. Assumes nothing.
use Rattle.std.proofs.Common.{◌≡◌, ℕ, zero, suc, ◌+◌, ◌-◌, ◌<◌, ◌≤◌, min, eqb, List, [], ◌∷◌, length, get_or, take, drop, sym, ap, ◌∙◌, ⊎_elim, arith}
use native.Mathlib.Nat.{min-eq_left, min-eq_right}
use Rattle.std.proofs.lemmas.List.{take_rest, drop_all}
use Rattle.std.proofs.lemmas.Bool.{eq-eqb, ne_eqb, cond-true, cond-false, cases_lt}
use Rattle.texts.specs.Lines.{onto, lines_of}

-- the first line feed of xs stands at n, or xs has none and n bytes
pub record Ends (xs : List ℕ) (n : ℕ) : Type 0 where
  pub within : n ≤ length xs
  pub before : (k : ℕ) → k < n → get_or xs k 0 ≡ 10 → ⊥
  pub found : n < length xs → get_or xs n 0 ≡ 10

first_line : (xs : List ℕ) (n : ℕ) → 0 < length xs → Ends xs n → lines_of xs ≡ take n xs ∷ lines_of (drop (suc n) xs)
first_line [] n some e = absurd (omega arith)
first_line (x ∷ xs) zero some e = cond-true (eqb x 10) _ _ (eq-eqb x 10 (e.found some))
first_line (x ∷ []) (suc zero) some e = cond-false (eqb x 10) _ _ (ne_eqb x 10 (e.before 0 (omega arith)))
first_line (x ∷ []) (suc (suc n)) some e = absurd (omega (arith, e.within))
first_line (x ∷ y ∷ ys) (suc n) some e =
    cond-false (eqb x 10) _ _ (ne_eqb x 10 (e.before 0 (omega arith)))
    ∙ ap (onto x) (first_line (y ∷ ys) n (omega arith) (record {
      within = omega (arith, e.within);
      before = λ k l. e.before (suc k) (omega arith);
      found = λ l. e.found (omega arith);
    }))

drop_min : (xs : List ℕ) (m : ℕ) → drop (min m (length xs)) xs ≡ drop m xs
drop_min xs m =
    ⊎_elim
    (λ l. let h : m ≤ length xs = omega arith in ap (λ k. drop k xs) (min-eq_left h))
    (λ l. ap (λ k. drop k xs) (min-eq_right l) ∙ drop_all (length xs) xs (omega arith) ∙ sym (drop_all m xs l))
    (cases_lt m (length xs))

-- a text is its first line and the lines behind it
pub first_cut : (text : List ℕ) (n to : ℕ) → 0 < length text → Ends text n → to ≡ min (n + 1) (length text) → lines_of text ≡ take n text ∷ lines_of (take (length text - to) (drop to text))
first_cut text n to some e is =
    let more : suc n ≡ n + 1 = omega arith in
    first_line text n some e
    ∙ ap (λ ls. take n text ∷ lines_of ls) (ap (λ k. drop k text) more ∙ sym (drop_min text (n + 1)) ∙ ap (λ k. drop k text) (sym is) ∙ sym (take_rest text to))
