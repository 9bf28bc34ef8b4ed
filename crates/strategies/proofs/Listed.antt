-- A list of arrivals for any rows. Assumes nothing.
use Rattle.std.proofs.Common.{◌≡◌, ℕ, zero, suc, ◌+◌, ◌*◌, ◌<◌, Bool, true, false, ◌&&◌, eqb, List, [], ◌∷◌, ◌++◌, length, get_or, refl, ap, ◌∙◌, arith}
use Rattle.std.proofs.lemmas.Bool.{eq-eqb, ne_eqb}
use Rattle.lists.specs.Lists.{keep}
use Rattle.strategies.specs.Rows.{same_mark, counted, CountsOf}
use Rattle.strategies.specs.declared.marks.Sign.TheVariants.{Plus, Minus}
use Rattle.strategies.specs.declared.marks.Mark.{Mark}
use Rattle.strategies.specs.declared.marks.Mark.TheVariants.{Signed, Default}
use Rattle.strategies.specs.declared.marks.Arrival.{Arrival}
use Rattle.strategies.specs.declared.rows.Rows.{Rows}
use Rattle.lists.proofs.Kept.{one, kept_cons, kept_append}

-- n arrivals of one kind
abbrev many : Mark → ℕ → ℕ → List Arrival
many m d zero = []
many m d (suc n) = record { mark = m; distance = d } ∷ many m d n

-- the arrivals of a row, from distance d on
abbrev row_from : Mark → ℕ → List ℕ → List Arrival
row_from m d [] = []
row_from m d (n ∷ ns) = many m d n ++ row_from m (suc d) ns

abbrev is : Mark → ℕ → Arrival → Bool
is m d r = same_mark m r.mark && eqb r.distance d

many_counted : (m k : Mark) (d e n : ℕ) → length (keep (is m d) (many k e n)) ≡ n * one (same_mark m k && eqb e d)
many_counted m k d e zero = omega arith
many_counted m k d e (suc n) =
    let front = kept_cons (is m d) (record { mark = k; distance = e }) (many k e n) in
    let rest = many_counted m k d e n in
    omega arith

-- another mark is not counted
row_other : (m k : Mark) (d e : ℕ) (ns : List ℕ) → same_mark m k ≡ false → length (keep (is m d) (row_from k e ns)) ≡ 0
row_other m k d e [] o = refl
row_other m k d e (n ∷ ns) o =
    let split = kept_append (is m d) (many k e n) (row_from k (suc e) ns) in
    let front = many_counted m k d e n in
    let none : one (same_mark m k && eqb e d) ≡ 0 = ap (λ b. one (b && eqb e d)) o in
    let rest = row_other m k d (suc e) ns o in
    let zeroed : n * one (same_mark m k && eqb e d) ≡ n * 0 = ap (λ x. n * x) none in
    omega arith

same_self : (m : Mark) → same_mark m m ≡ true
same_self m = grind arith

-- nothing before the first distance
row_before : (m : Mark) (d e : ℕ) (ns : List ℕ) → d < e → length (keep (is m d) (row_from m e ns)) ≡ 0
row_before m d e [] l = refl
row_before m d e (n ∷ ns) l =
    let split = kept_append (is m d) (many m e n) (row_from m (suc e) ns) in
    let front = many_counted m m d e n in
    let none : one (same_mark m m && eqb e d) ≡ 0 = ap (λ b. one (b && eqb e d)) (same_self m) ∙ ap one (ne_eqb e d (λ q. omega arith)) in
    let rest = row_before m d (suc e) ns (omega arith) in
    let zeroed : n * one (same_mark m m && eqb e d) ≡ n * 0 = ap (λ x. n * x) none in
    omega arith

-- and the row's number at each distance from it on
row_counted : (m : Mark) (i e : ℕ) (ns : List ℕ) → length (keep (is m (e + i)) (row_from m e ns)) ≡ get_or ns i 0
row_counted m i e [] = refl
row_counted m zero e (n ∷ ns) =
    let split = kept_append (is m (e + 0)) (many m e n) (row_from m (suc e) ns) in
    let front = many_counted m m (e + 0) e n in
    let here : one (same_mark m m && eqb e (e + 0)) ≡ 1 = ap (λ b. one (b && eqb e (e + 0))) (same_self m) ∙ ap one (eq-eqb e (e + 0) (omega arith)) in
    let rest = row_before m (e + 0) (suc e) ns (omega arith) in
    let whole : n * one (same_mark m m && eqb e (e + 0)) ≡ n * 1 = ap (λ x. n * x) here in
    omega arith
row_counted m (suc i) e (n ∷ ns) =
    let split = kept_append (is m (e + suc i)) (many m e n) (row_from m (suc e) ns) in
    let front = many_counted m m (e + suc i) e n in
    let none : one (same_mark m m && eqb e (e + suc i)) ≡ 0 = ap (λ b. one (b && eqb e (e + suc i))) (same_self m) ∙ ap one (ne_eqb e (e + suc i) (λ q. omega arith)) in
    let zeroed : n * one (same_mark m m && eqb e (e + suc i)) ≡ n * 0 = ap (λ x. n * x) none in
    let rest = row_counted m i (suc e) ns in
    let moved : length (keep (is m (e + suc i)) (row_from m (suc e) ns)) ≡ length (keep (is m (suc e + i)) (row_from m (suc e) ns)) = ap (λ d. length (keep (is m d) (row_from m (suc e) ns))) (omega arith) in
    omega arith

abbrev listed : Rows → List Arrival
listed rows = row_from (Signed Plus) 0 rows.plus.counts ++ (row_from (Signed Minus) 0 rows.minus.counts ++ row_from Default 0 rows.default.counts)

split_counted : (rows : Rows) (m : Mark) (d : ℕ) → length (keep (is m d) (listed rows)) ≡ length (keep (is m d) (row_from (Signed Plus) 0 rows.plus.counts)) + (length (keep (is m d) (row_from (Signed Minus) 0 rows.minus.counts)) + length (keep (is m d) (row_from Default 0 rows.default.counts)))
split_counted rows m d =
    let first = kept_append (is m d) (row_from (Signed Plus) 0 rows.plus.counts) (row_from (Signed Minus) 0 rows.minus.counts ++ row_from Default 0 rows.default.counts) in
    let second = kept_append (is m d) (row_from (Signed Minus) 0 rows.minus.counts) (row_from Default 0 rows.default.counts) in
    omega arith

from_zero : (m : Mark) (d : ℕ) (ns : List ℕ) → length (keep (is m d) (row_from m 0 ns)) ≡ get_or ns d 0
from_zero m d ns = ap (λ x. length (keep (is m x) (row_from m 0 ns))) (omega arith) ∙ row_counted m d 0 ns

listed_counts : (rows : Rows) → CountsOf rows (listed rows)
unfolding counted
listed_counts rows m d =
    let split = split_counted rows m d in
    let plus = from_zero (Signed Plus) d rows.plus.counts in
    let minus = from_zero (Signed Minus) d rows.minus.counts in
    let default = from_zero Default d rows.default.counts in
    grind (arith, row_other)

pub any_rows_count : (rows : Rows) → (l : List Arrival) × CountsOf rows l
any_rows_count rows = (listed rows, listed_counts rows)
