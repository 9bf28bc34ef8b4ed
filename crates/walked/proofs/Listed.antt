-- From counts to the listing: the rows of a listing, and its least distance. Assumes nothing.
use Rattle.std.proofs.Common.{◌≡◌, ℕ, ◌+◌, ◌<◌, ◌≤◌, min, Bool, true, false, cond, ◌&&◌, eqb, ◌⊎◌, List, [], ◌∷◌, map, length, Some, None, Option, sym, refl, ap, ◌∙◌, inl, inr, arith}
use Rattle.std.specs.List.{AllByRecursion}
use Rattle.std.proofs.lemmas.List.{get_or_past}
use Rattle.std.proofs.lemmas.Bool.{cases_lt, cases_order, eq-eqb, ne_eqb, and_right}
use Rattle.lists.specs.Lists.{keep}
use Rattle.lists.proofs.Kept.{one, kept_cons}
use Rattle.plans.specs.Items.{Items}
use Rattle.strategies.specs.Resolve.{least_of}
use Rattle.strategies.specs.Rows.{CountsOf, counted, row_at, same_mark}
use Rattle.strategies.specs.declared.marks.Sign.TheVariants.{Plus, Minus}
use Rattle.strategies.specs.declared.marks.Mark.{Mark}
use Rattle.strategies.specs.declared.marks.Mark.TheVariants.{Signed, Default}
use Rattle.strategies.specs.declared.marks.Arrival.{Arrival}
use Rattle.strategies.specs.declared.rows.Rows.{Rows}
use Rattle.model.specs.Counted.{Lengths, listed_lengths}
use Rattle.model.specs.Model.{Model}
use Rattle.model.specs.Question.{listing, nearest_of}
use Rattle.model.proofs.Bounds.{Near, counted_le, listed_near}
use Rattle.model.proofs.Counting.{counted_signed, counted_default}
use Rattle.walked.specs.Asked.{RowsBy}
use Rattle.walked.specs.Distances.{FirstIfAny}
use Rattle.walked.proofs.Lengths.{Agree, of_grants_same, of_accounts_same}

-- nothing is counted past distance 14
far_none : (m : Mark) (rows : List Arrival) → AllByRecursion Near rows → (d : ℕ) → 15 ≤ d → counted m rows d ≡ 0
unfolding counted
far_none m [] near d l = refl
far_none m (x ∷ rows) near d l =
    let rest = far_none m rows near.1 d l in
    let first = kept_cons (λ r. same_mark m r.mark && eqb r.distance d) x rows in
    let here : x.distance < 15 = near.0 in
    let none : one (same_mark m x.mark && eqb x.distance d) ≡ 0 =
    ap one (and_right (same_mark m x.mark) (eqb x.distance d) (ne_eqb x.distance d (λ e. omega arith))) in
    omega arith

row_past : (rows : Rows) (m : Mark) (d : ℕ) → 15 ≤ d → row_at rows m d ≡ 0
row_past rows (Signed Plus) d l = get_or_past rows.plus.counts d 0 (omega (arith, rows.plus.long))
row_past rows (Signed Minus) d l = get_or_past rows.minus.counts d 0 (omega (arith, rows.minus.long))
row_past rows Default d l = get_or_past rows.default.counts d 0 (omega (arith, rows.default.long))

-- rows that count what grants and accounts give are those of the listing
pub rows_listed : (n : ℕ) (M : Model) (I : Items) (L : Lengths) (s o r : ℕ) (rows : Rows) → RowsBy n M.members M.grants L s r rows →
    Agree L (listed_lengths I o) M.grants → length (listing n M I s o r) ≤ 1000000000000 → CountsOf rows (listing n M I s o r)
rows_listed n M I L s o r rows by same few m d = split m (cases_lt d 15)
  where
    split : (m : Mark) → (d < 15) ⊎ (15 ≤ d) → counted m (listing n M I s o r) d ≡ row_at rows m d
    split (Signed sign) (inl l) =
        let all = counted_signed n M I s o r d sign in
        let read = of_grants_same n M.members L (listed_lengths I o) s r sign d M.grants same in
        let most = counted_le (Signed sign) (listing n M I s o r) d in
        let found = by.signed sign d l in
        omega arith
    split Default (inl l) =
        let all = counted_default n M I s o r d in
        let read = of_accounts_same n M.members L (listed_lengths I o) s r d M.grants same in
        let most = counted_le Default (listing n M I s o r) d in
        let found = by.default d l in
        omega arith
    split m (inr l) = far_none m (listing n M I s o r) (listed_near n M I s o r) d l ∙ sym (row_past rows m d l)

-- how often a distance stands in a list
abbrev times : ℕ → List ℕ → ℕ
times d xs = length (keep (λ e. eqb e d) xs)

least_le : (y : ℕ) (ys : List ℕ) → least_of y ys ≤ y
least_le y [] = omega arith
least_le y (z ∷ zs) = let rest = least_le (min y z) zs in omega arith

least_stands : (y : ℕ) (ys : List ℕ) → 0 < times (least_of y ys) (y ∷ ys)
least_stands y [] =
    let first = kept_cons (λ e. eqb e y) y [] in
    let here : one (eqb y y) ≡ 1 = ap one (eq-eqb y y refl) in
    omega arith
least_stands y (z ∷ zs) =
    let rest = least_stands (min y z) zs in
    let front = kept_cons (λ e. eqb e m) (min y z) zs in
    let outer = kept_cons (λ e. eqb e m) y (z ∷ zs) in
    let inner = kept_cons (λ e. eqb e m) z zs in
    let which = pick (cases_lt y z) in
    omega arith
  where
    m : ℕ
    m = least_of (min y z) zs

    pick : (y < z) ⊎ (z ≤ y) → one (eqb (min y z) m) ≤ one (eqb y m) + one (eqb z m)
    pick (inl l) = let is : min y z ≡ y = omega arith in let same = ap (λ w. one (eqb w m)) is in omega arith
    pick (inr l) = let is : min y z ≡ z = omega arith in let same = ap (λ w. one (eqb w m)) is in omega arith

none_less : (y : ℕ) (ys : List ℕ) (d : ℕ) → d < least_of y ys → times d (y ∷ ys) ≡ 0
none_less y [] d l =
    let first = kept_cons (λ e. eqb e d) y [] in
    let here : one (eqb y d) ≡ 0 = ap one (ne_eqb y d (λ e. omega arith)) in
    omega arith
none_less y (z ∷ zs) d l =
    let rest = none_less (min y z) zs d l in
    let low = least_le (min y z) zs in
    let front = kept_cons (λ e. eqb e d) (min y z) zs in
    let outer = kept_cons (λ e. eqb e d) y (z ∷ zs) in
    let inner = kept_cons (λ e. eqb e d) z zs in
    let not-y : one (eqb y d) ≡ 0 = ap one (ne_eqb y d (λ e. omega arith)) in
    let not-z : one (eqb z d) ≡ 0 = ap one (ne_eqb z d (λ e. omega arith)) in
    omega arith

-- the first that stands in a list is its least
first_is_least : (xs : List ℕ) (r : Option ℕ) → FirstIfAny (λ d. times d xs) r → r ≡ nearest_of xs
first_is_least [] None f = refl
first_is_least [] (Some x) f = absurd (omega (arith, f.0))
first_is_least (y ∷ ys) None f = absurd (omega (arith, least_stands y ys, f (least_of y ys)))
first_is_least (y ∷ ys) (Some x) f = ap Some (same (cases_order x (least_of y ys)))
  where
    same : (x ≡ least_of y ys) ⊎ ((x < least_of y ys) ⊎ (least_of y ys < x)) → x ≡ least_of y ys
    same (inl e) = e
    same (inr (inl l)) = absurd (omega (arith, none_less y ys x l, f.0))
    same (inr (inr l)) = absurd (omega (arith, least_stands y ys, f.1 (least_of y ys) l))

counted_times : (m : Mark) (rows : List Arrival) (d : ℕ) → counted m rows d ≡ times d (map (λ a. a.distance) (keep (λ a. same_mark m a.mark) rows))
unfolding counted
counted_times m [] d = refl
counted_times m (x ∷ rows) d =
    kept_cons (λ r. same_mark m r.mark && eqb r.distance d) x rows ∙ step (same_mark m x.mark) (counted_times m rows d)
  where
    rest : List Arrival
    rest = keep (λ a. same_mark m a.mark) rows

    step : (t : Bool) → counted m rows d ≡ times d (map (λ a. a.distance) rest) →
        one (t && eqb x.distance d) + counted m rows d ≡ times d (map (λ a. a.distance) (cond t (x ∷ rest) rest))
    step true before =
        let first = kept_cons (λ e. eqb e d) x.distance (map (λ a. a.distance) rest) in
        omega arith
    step false before = omega arith

-- so the first distance at which a mark is counted is the least of the listing
pub least_listed : (m : Mark) (rows : List Arrival) (r : Option ℕ) → FirstIfAny (counted m rows) r →
    r ≡ nearest_of (map (λ a. a.distance) (keep (λ a. same_mark m a.mark) rows))
least_listed m rows None f = first_is_least _ None (λ d. sym (counted_times m rows d) ∙ f d)
least_listed m rows (Some x) f =
    first_is_least _ (Some x) (omega (arith, counted_times m rows x, f.0), λ d l. sym (counted_times m rows d) ∙ f.1 d l)
