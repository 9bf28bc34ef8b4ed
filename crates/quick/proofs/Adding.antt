-- A row added to another, length by length; default marks added account by account. Assumes nothing.
use Rattle.std.proofs.Common.{◌≡◌, ℕ, ◌+◌, ◌<◌, ◌≤◌, Bool, true, false, cond, ltb, ◌⊎◌, List, length, get_or, take, set, sym, refl, ap, ◌∙◌, inl, inr, arith, get_or-set_other, get_or-set_same}
use Rattle.std.proofs.lemmas.List.{get_or_past, get_or-take, length-take-le}
use Rattle.std.proofs.lemmas.Bool.{cases_eq, cases_lt, ltb-false, ltb-true}
use Rattle.lists.specs.Lists.{below, some, sum_below}
use Rattle.lists.proofs.Sums.{sum_bound, sum_more}
use Rattle.chains.specs.Chains.{Members, count}
use Rattle.chains.specs.Tests.{groupless}
use Rattle.chains.proofs.Some.{some_none}
use Rattle.quick.specs.Sums.{defaults_below}
use Rattle.quick.proofs.Reading.{any_of_eight}

-- the first k of a list, read at any place
front : (xs : List ℕ) (k d : ℕ) → k ≤ length xs → (d < k → get_or (take k xs) d 0 ≡ get_or xs d 0) × (k ≤ d → get_or (take k xs) d 0 ≡ 0)
front xs k d fits = (
  (λ l. get_or-take k xs d 0 l),
  (λ l. let long = length-take-le k xs fits in get_or_past (take k xs) d 0 (omega arith)),
)

pub front_past : (xs : List ℕ) (k : ℕ) → k ≤ length xs → get_or (take k xs) k 0 ≡ 0
front_past xs k fits = (front xs k k fits).1 (omega arith)

pub row_more : (before row ups : List ℕ) (k : ℕ) → k < length row → k < length ups →
    ((d : ℕ) → d < 15 → get_or row d 0 ≡ get_or before d 0 + get_or (take k ups) d 0) →
    (d : ℕ) → d < 15 → get_or (set row k (get_or row k 0 + get_or ups k 0)) d 0 ≡ get_or before d 0 + get_or (take (k + 1) ups) d 0
row_more before row ups k within fits inv d l = split (cases_eq d k) (cases_lt d k)
  where
    split : (d ≡ k) ⊎ (d ≡ k → ⊥) → (d < k) ⊎ (k ≤ d) → get_or (set row k (get_or row k 0 + get_or ups k 0)) d 0 ≡ get_or before d 0 + get_or (take (k + 1) ups) d 0
    split (inl e) u =
        let moved = ap (λ i. get_or (set row k (get_or row k 0 + get_or ups k 0)) i 0) e in
        let new = get_or-set_same row k (get_or row k 0 + get_or ups k 0) 0 within in
        let old = inv d l in
        let none = (front ups k d (omega arith)).1 (omega arith) in
        let here = (front ups (k + 1) d (omega arith)).0 (omega arith) in
        let a = ap (λ i. get_or row i 0) e in
        let b = ap (λ i. get_or ups i 0) e in
        omega arith
    split (inr ne) (inl u) =
        let other = get_or-set_other row k d (get_or row k 0 + get_or ups k 0) 0 ne in
        let old = inv d l in
        let x = (front ups k d (omega arith)).0 u in
        let y = (front ups (k + 1) d (omega arith)).0 (omega arith) in
        omega arith
    split (inr ne) (inr u) =
        let other = get_or-set_other row k d (get_or row k 0 + get_or ups k 0) 0 ne in
        let old = inv d l in
        let x = (front ups k d (omega arith)).1 u in
        let y = (front ups (k + 1) d (omega arith)).1 (omega arith) in
        omega arith

-- the marks of one more account
module _ (n : ℕ) (E : Members) (held : List Bool) (s d : ℕ) where
  of_account : ℕ → ℕ
  of_account a = cond (get_or held a false) 0 (cond (groupless n E a) (cond (ltb d 8) (count n E a s d) 0) 0)

  pub defaults_none : defaults_below 0 n E held s d ≡ 0
  unfolding defaults_below
  defaults_none = refl

  pub defaults_free : (m : ℕ) → get_or held m false ≡ false →
      defaults_below (m + 1) n E held s d ≡ defaults_below m n E held s d + cond (groupless n E m) (cond (ltb d 8) (count n E m s d) 0) 0
  unfolding defaults_below of_account
  defaults_free m e =
      sum_more m of_account
      ∙ ap (λ t. sum_below m of_account + cond t 0 (cond (groupless n E m) (cond (ltb d 8) (count n E m s d) 0) 0)) e

  pub defaults_held : (m : ℕ) → get_or held m false ≡ true → defaults_below (m + 1) n E held s d ≡ defaults_below m n E held s d
  unfolding defaults_below of_account
  defaults_held m e =
      let more = sum_more m of_account in
      let none : of_account m ≡ 0 = ap (λ t. cond t 0 (cond (groupless n E m) (cond (ltb d 8) (count n E m s d) 0) 0)) e in
      omega arith

  pub defaults_few : (m : ℕ) → m ≤ 64 → ((a : ℕ) → a < m → (d < 8 → count n E a s d ≤ 99999)) → defaults_below m n E held s d ≤ 6399936
  unfolding defaults_below of_account
  defaults_few m small few =
      let bound = sum_bound m of_account 99999 (λ a l. by a (get_or held a false) (groupless n E a) (cases_lt d 8) (few a l)) in
      omega arith
    where
      low : (x y : ℕ) (t : Bool) → (t ≡ true → x ≤ y) → cond t x 0 ≤ y
      low x y true h = h refl
      low x y false h = omega arith

      by : (a : ℕ) (h g : Bool) → (d < 8) ⊎ (8 ≤ d) → (d < 8 → count n E a s d ≤ 99999) → cond h 0 (cond g (cond (ltb d 8) (count n E a s d) 0) 0) ≤ 99999
      by a true g l f = omega arith
      by a false false l f = omega arith
      by a false true (inl l) f = low (count n E a s d) 99999 (ltb d 8) (λ e. f l)
      by a false true (inr l) f = low (count n E a s d) 99999 (ltb d 8) (λ e. absurd (let lt = ltb-true d 8 e in omega arith))

-- a row without chains adds nothing
pub no_chains : (row : List ℕ) → length row ≡ 8 → some (ltb 0) row ≡ false → (d : ℕ) → get_or row d 0 ≡ 0
no_chains row long none d = split (cases_lt d 8)
  where
    eight : some (λ k. ltb 0 (get_or row k 0)) (below 8) ≡ false
    eight = sym (any_of_eight row long) ∙ none

    split : (d < 8) ⊎ (8 ≤ d) → get_or row d 0 ≡ 0
    split (inl l) = let z = ltb-false 0 (get_or row d 0) (some_none (λ k. ltb 0 (get_or row k 0)) 8 eight d l) in omega arith
    split (inr l) = get_or_past row d 0 (omega arith)
