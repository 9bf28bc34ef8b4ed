-- What a test of the numbers in a range, by `any`, tells of them. Assumes nothing.
use Rattle.std.proofs.Common.{◌≡◌, ℕ, ◌+◌, ◌-◌, ◌<◌, ◌≤◌, Bool, true, false, List, length, get_or, Option, sym, refl, subst, true≢false, arith}
use denote.Param.Members.{Mut}
use Rattle.std.specs.declared.ops.Range.{Range}
use Rattle.std.specs.Bool.{MatchBool}
use Rattle.std.specs.Fn.{Called}
use Rattle.std.specs.Iterator.{YieldsThen}
use Rattle.std.specs.List.{AllWithin, FoldsTo, HoldsAt, range_with_len}
use Rattle.std.specs.Option.{MatchOption}
use Rattle.std.proofs.iter.Yields.{nat_range_steps}
use Rattle.std.proofs.lemmas.Iterator.{YieldsList-from_range, cases_from_any}
use Rattle.std.proofs.lemmas.List.FromFn.{get_or-range_with_len, length-range_with_len}

-- if the answer is true, a number in the range has Yes, and if it is false, each has No
pub any_from_range : {F : Type 0} {g : Mut F (ℕ × Unit {0}) Bool} (s u : Range ℕ) (f : F) (r : Bool) (Yes No : ℕ → Type 0) →
    (xs : List ℕ) × (o : Option ℕ) × (j : F) × YieldsThen nat_range_steps s xs o u × FoldsTo (λ p x q. Called g p (x, tt) false q) f xs j
    × MatchOption o (r ≡ false) (λ x. (r ≡ true) × ((h : F) × Called g j (x, tt) true h)) →
    ((x : ℕ) (q : F) → Called g f (x, tt) true q → Yes x) → ((x : ℕ) (q : F) → Called g f (x, tt) false q → (q ≡ f) × No x) →
    (r ≡ true → (k : ℕ) × (s.start ≤ k) × (k < s.end) × Yes k) × (r ≡ false → (k : ℕ) → s.start ≤ k → k < s.end → No k)
any_from_range s u f r Yes No ran is_yes is_no = by r (cases_from_any u f r Yes No ran (YieldsList-from_range s.start s.end n refl refl) is_yes is_no)
  where
    n : ℕ
    n = s.end - s.start

    all : List ℕ
    all = range_with_len s.start n

    by : (b : Bool) → MatchBool b ((i : ℕ) × (i < length all) × HoldsAt Yes all i) (AllWithin No all 0 (length all)) →
        (b ≡ true → (k : ℕ) × (s.start ≤ k) × (k < s.end) × Yes k) × (b ≡ false → (k : ℕ) → s.start ≤ k → k < s.end → No k)
    by true (i, l, h) =
        let long = length-range_with_len s.start n in
        let at = get_or-range_with_len s.start n i 0 (omega arith) in
        (λ _. (s.start + i, omega arith, omega arith, subst Yes at (h 0)), λ e. absurd (true≢false e))
    by false h = (
      λ e. absurd (true≢false (sym e)),
      λ _ k low high.
          let long = length-range_with_len s.start n in
          let at = get_or-range_with_len s.start n (k - s.start) 0 (omega arith) in
          subst No {x = get_or all (k - s.start) 0} {y = k} (omega arith) (h (k - s.start) 0 (omega arith) (omega arith)),
    )
