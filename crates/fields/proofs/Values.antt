-- One digit more, and the ends of a number. Assumes nothing.
use Rattle.std.proofs.Common.{◌≡◌, ℕ, ◌+◌, ◌-◌, ◌*◌, ◌^◌, ◌<◌, ◌≤◌, List, length, get_or, drop, Some, None, ◌∙◌, arith, lit≤, pow-add}
use native.Mathlib.Nat.{pow-le-pow_right}
use Rattle.std.proofs.lemmas.List.{at_drop_more, at_drop_all}
use Rattle.std.proofs.lemmas.Bool.{cond-true, cond-false, le-leb, lt-leb, and_from, and_left, and_right}
use Rattle.fields.specs.Fields.{is_digit, digits_after}

pub digit_step : (n : ℕ) (xs : List ℕ) (i : ℕ) → i < length xs → 48 ≤ get_or xs i 0 → get_or xs i 0 < 58 → digits_after n (drop i xs) ≡ digits_after (n * 10 + (get_or xs i 0 - 48)) (drop (i + 1) xs)
digit_step n xs i h low high = at_drop_more (digits_after n) xs i 0 h ∙ cond-true (is_digit (get_or xs i 0)) _ _ (and_from _ _ (le-leb 48 _ low) (le-leb (get_or xs i 0) 57 (omega arith)))

pub digit_low : (n : ℕ) (xs : List ℕ) (i : ℕ) → i < length xs → get_or xs i 0 < 48 → digits_after n (drop i xs) ≡ None
digit_low n xs i h low = at_drop_more (digits_after n) xs i 0 h ∙ cond-false (is_digit (get_or xs i 0)) _ _ (and_left _ _ (lt-leb 48 _ low))

pub digit_high : (n : ℕ) (xs : List ℕ) (i : ℕ) → i < length xs → 58 ≤ get_or xs i 0 → digits_after n (drop i xs) ≡ None
digit_high n xs i h high = at_drop_more (digits_after n) xs i 0 h ∙ cond-false (is_digit (get_or xs i 0)) _ _ (and_right _ _ (lt-leb (get_or xs i 0) 57 (omega arith)))

pub digits_end : (n : ℕ) (xs : List ℕ) (i : ℕ) → length xs ≤ i → digits_after n (drop i xs) ≡ Some n
digits_end n xs i h = at_drop_all (digits_after n) xs i h

pub small : (v i : ℕ) → v < 10 ^ i → i < 9 → v < 100000000
small v i h l =
    let most : i ≤ 8 = omega arith in
    let top : 10 ^ i ≤ 10 ^ 8 = pow-le-pow_right (lit≤ tt) most in
    omega arith

pub ten_more : (v i d : ℕ) → v < 10 ^ i → d < 10 → v * 10 + d < 10 ^ (i + 1)
ten_more v i d h l = omega (arith, pow-add 10 i 1)
