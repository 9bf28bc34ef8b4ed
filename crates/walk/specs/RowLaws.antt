-- The laws of rows of counts. Assumes nothing.
use Rattle.std.specs.Prelude.{◌≡◌, ℕ, zero, suc, ◌+◌, ◌-◌, ◌<◌, ◌≤◌, length, slice_index, refl}
use Rattle.std.proofs.Common.{ap, sym, ◌∙◌, arith}
use mathlib.Core.HLevel.{is_prop→PathP, Π_prop}
use Rattle.std.proofs.Math.Bridge.{le_prop}
use Rattle.std.proofs.Math.Nat.{ℕ_set}
use Rattle.std.proofs.lemmas.List.{ext_get_or}
use Rattle.std.proofs.lemmas.List.FromFn.{get_or-map-range_with_len}
use Rattle.walk.specs.Weights.{Laws}
use Rattle.walk.specs.Counts.{count_at, limited, row_of, no_counts, added, before, later, three, no_rows, added_rows, later_rows}
use Rattle.strategies.specs.declared.rows.Row.{Row}

-- rows with the same counts are the same
pub same_counts : (x y : Row) → x.counts ≡ y.counts → x ≡ y
same_counts x y p = λ i. record {
  counts = p i;
  long = is_prop→PathP (λ j. length (p j) ≡ 15) (λ j. ℕ_set _ _) x.long y.long i;
  small = is_prop→PathP (λ j. (d : ℕ) → d < 15 → slice_index (p j) d ≤ 1000000000000) (λ j. Π_prop (λ d. Π_prop (λ h. le_prop))) x.small y.small i;
}

pub same_row : (x y : Row) → ((d : ℕ) → d < 15 → count_at x d ≡ count_at y d) → x ≡ y
same_row x y h = same_counts x y (ext_get_or 0 x.counts y.counts (x.long ∙ sym y.long) (λ d l. h d (omega (arith, x.long))))

-- what a made row has at a distance
pub count_of : (f : ℕ → ℕ) (d : ℕ) → d < 15 → count_at (row_of f) d ≡ limited (f d)
unfolding row_of
count_of f d h = get_or-map-range_with_len (λ e. limited (f e)) 0 15 d d 0 h (omega arith)

-- two rows that are made of functions with the same limited values
pub same_made : (f g : ℕ → ℕ) → ((d : ℕ) → d < 15 → limited (f d) ≡ limited (g d)) → row_of f ≡ row_of g
same_made f g h = same_row (row_of f) (row_of g) (λ d l. count_of f d l ∙ h d l ∙ sym (count_of g d l))

left_first : (a b c : ℕ) → limited (limited (a + b) + c) ≡ limited (a + limited (b + c))
left_first a b c = omega arith

each_first : (a b : ℕ) → limited (limited (a + b)) ≡ limited (limited a + limited b)
each_first a b = omega arith

assoc : (x y z : Row) → added (added x y) z ≡ added x (added y z)
assoc x y z =
    same_made (λ d. count_at (added x y) d + count_at z d) (λ d. count_at x d + count_at (added y z) d)
    (λ d h. ap (λ n. limited (n + count_at z d)) (count_of (λ e. count_at x e + count_at y e) d h)
    ∙ left_first (count_at x d) (count_at y d) (count_at z d)
    ∙ ap (λ n. limited (count_at x d + n)) (sym (count_of (λ e. count_at y e + count_at z e) d h)))

neutral : (x : Row) → added no_counts x ≡ x
neutral x =
    same_row (added no_counts x) x
    (λ d h. count_of (λ e. count_at no_counts e + count_at x e) d h
    ∙ ap (λ n. limited (n + count_at x d)) (count_of (λ e. 0) d h)
    ∙ omega (arith, x.small d h))

keep_none : (d : ℕ) → d < 15 → limited (before no_counts d) ≡ limited 0
keep_none zero h = refl
keep_none (suc d) h = ap limited (count_of (λ e. 0) d (omega arith))

spread : (x y : Row) (d : ℕ) → d < 15 → limited (before (added x y) d) ≡ limited (limited (before x d) + limited (before y d))
spread x y zero h = refl
spread x y (suc d) h =
    ap limited (count_of (λ e. count_at x e + count_at y e) d (omega arith)) ∙ each_first (count_at x d) (count_at y d)

spreads : (x y : Row) → later (added x y) ≡ added (later x) (later y)
spreads x y =
    same_made (before (added x y)) (λ d. count_at (later x) d + count_at (later y) d)
    (λ d h. spread x y d h
    ∙ ap (λ n. limited (n + limited (before y d))) (sym (count_of (before x) d h))
    ∙ ap (λ n. limited (count_at (later x) d + n)) (sym (count_of (before y) d h)))

pub row_laws : Laws no_counts added later
row_laws = record {
  assoc = assoc;
  comm = λ x y. same_made (λ d. count_at x d + count_at y d) (λ d. count_at y d + count_at x d) (λ d h. omega arith);
  neutral = neutral;
  keeps = same_made (before no_counts) (λ d. 0) keep_none;
  spreads = spreads;
}

-- the count one distance before, by its place
pub before_is : (x : Row) (d : ℕ) → 0 < d → count_at x (d - 1) ≡ before x d
before_is x zero h = absurd (omega arith)
before_is x (suc d) h = ap (count_at x) (omega arith)

-- a count is never above the limit
pub limited_before : (x : Row) (d : ℕ) → d < 15 → before x d ≡ limited (before x d)
limited_before x zero h = refl
limited_before x (suc d) h = omega (arith, x.small d (omega arith))

-- three rows at once

pub each_row : {a b c d e f : Row} → a ≡ b → c ≡ d → e ≡ f → three a c e ≡ three b d f
each_row p q r = λ i. three (p i) (q i) (r i)

pub rows_laws : Laws no_rows added_rows later_rows
rows_laws =
    let l = row_laws in
    record {
      assoc = λ x y z. each_row (l.assoc x.plus y.plus z.plus) (l.assoc x.minus y.minus z.minus) (l.assoc x.default y.default z.default);
      comm = λ x y. each_row (l.comm x.plus y.plus) (l.comm x.minus y.minus) (l.comm x.default y.default);
      neutral = λ x. each_row (l.neutral x.plus) (l.neutral x.minus) (l.neutral x.default);
      keeps = each_row l.keeps l.keeps l.keeps;
      spreads = λ x y. each_row (l.spreads x.plus y.plus) (l.spreads x.minus y.minus) (l.spreads x.default y.default);
    }
