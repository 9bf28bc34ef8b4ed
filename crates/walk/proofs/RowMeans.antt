-- In rows the walk counts the arrivals at each distance. Assumes nothing.
use Rattle.std.proofs.Common.{◌≡◌, ℕ, zero, suc, ◌+◌, ◌-◌, ◌*◌, ◌<◌, ◌≤◌, cond, leb, List, [], ◌∷◌, map, length, sym, refl, ap, ◌∙◌, suc-mul, add_comm, zero-mul, arith}
use lib.Dec.{leb-suc-suc}
use Rattle.std.proofs.lemmas.Bool.{cond-true, cond-false, le-leb, lt-leb}
use Rattle.std.proofs.lemmas.List.{map-append}
use Rattle.lists.specs.Lists.{below, sum_below}
use Rattle.lists.proofs.Sums.{sum_same, sum_swap}
use Rattle.chains.specs.Chains.{Members, Short, chains, count}
use Rattle.strategies.specs.declared.rows.Row.{Row}
use Rattle.strategies.specs.declared.rows.Rows.{Rows}
use Rattle.strategies.specs.declared.marks.Mark.{Mark}
use Rattle.strategies.specs.declared.marks.Mark.TheVariants.{Signed, Default}
use Rattle.strategies.specs.declared.marks.Sign.TheVariants.{Plus, Minus}
use Rattle.strategies.specs.Rows.{row_at}
use Rattle.walk.specs.Weights.{Laws, total, times, arriving, arrivals}
use Rattle.walk.specs.Counts.{count_at, limited, no_counts, added, before, later, no_rows, added_rows, later_rows}
use Rattle.walk.specs.Meaning.{arrived, ArrivalsCounted}
use Rattle.walk.proofs.Totals.{map_same, map_map, map_join, total_join, total_push}
use Rattle.walk.proofs.Carried.{carried}
use Rattle.walk.specs.RowLaws.{count_of}

-- numbers are a weight too, that does not change with a step
number_laws : Laws 0 ◌+◌ (λ (n : ℕ). n)
number_laws = record {
  assoc = λ x y z. omega arith;
  comm = λ x y. omega arith;
  neutral = λ x. omega arith;
  keeps = refl;
  spreads = λ x y. refl;
}

total_below : (f : ℕ → ℕ) (n : ℕ) → total 0 ◌+◌ (map f (below n)) ≡ sum_below n f
total_below f zero = refl
total_below f (suc n) =
    ap (total 0 ◌+◌) (map-append f (below n) (n ∷ [])) ∙ total_push number_laws (map f (below n)) (f n) ∙ ap (λ z. z + f n) (total_below f n)

repeated : {A : Type 0} (c : ℕ) (xs : List A) → total 0 ◌+◌ (map (λ x. c) xs) ≡ length xs * c
repeated c [] = sym (zero-mul c)
repeated c (x ∷ xs) = ap (λ n. c + n) (repeated c xs) ∙ add_comm c (length xs * c) ∙ sym (suc-mul (length xs) c)

limit_inside : (a b : ℕ) → limited (a + limited b) ≡ limited (a + b)
limit_inside a b = omega arith

total_counts : (d : ℕ) → d < 15 → (ws : List Row) → count_at (total no_counts added ws) d ≡ limited (total 0 ◌+◌ (map (λ w. count_at w d) ws))
total_counts d h [] = count_of (λ e. 0) d h
total_counts d h (w ∷ ws) =
    count_of (λ e. count_at w e + count_at (total no_counts added ws) e) d h
    ∙ ap (λ m. limited (count_at w d + m)) (total_counts d h ws)
    ∙ limit_inside (count_at w d) (total 0 ◌+◌ (map (λ v. count_at v d) ws))

-- k steps bring to distance d what was at d - k
later_times : (k d : ℕ) → d < 15 → (x : Row) → count_at (times later k x) d ≡ cond (leb k d) (count_at x (d - k)) 0
later_times zero d h x = ap (count_at x) (omega arith) ∙ sym (cond-true (leb 0 d) (count_at x (d - 0)) 0 (le-leb 0 d (omega arith)))
later_times (suc k) zero h x =
    count_of (before (times later k x)) zero h ∙ sym (cond-false (leb (suc k) 0) (count_at x (0 - suc k)) 0 (lt-leb (suc k) 0 (omega arith)))
later_times (suc k) (suc d) h x =
    count_of (before (times later k x)) (suc d) h
    ∙ whole
    ∙ later_times k d (omega arith) x
    ∙ ap (λ b. cond b (count_at x (d - k)) 0) (sym (leb-suc-suc k d))
    ∙ ap (λ e. cond (leb (suc k) (suc d)) (count_at x e) 0) same_gap
  where
    same_gap : d - k ≡ suc d - suc k
    same_gap = omega arith

    whole : limited (count_at (times later k x) d) ≡ count_at (times later k x) d
    whole = omega (arith, (times later k x).small d (omega arith))

-- what arrives, as sums over lengths and accounts, in either order
pub arrived_by_length : (n : ℕ) (E : Members) (start : ℕ → ℕ → ℕ) (s many d : ℕ) →
    arrived n E start s many d ≡ sum_below many (λ k. sum_below n (λ a. count n E a s k * cond (leb k d) (start a (d - k)) 0))
unfolding arrived
arrived_by_length n E start s many d = refl

pub arrived_by_account : (n : ℕ) (E : Members) (start : ℕ → ℕ → ℕ) (s many d : ℕ) →
    arrived n E start s many d ≡ sum_below n (λ a. sum_below many (λ k. count n E a s k * cond (leb k d) (start a (d - k)) 0))
unfolding arrived
arrived_by_account n E start s many d = sum_swap many n (λ k a. count n E a s k * cond (leb k d) (start a (d - k)) 0)

module _ (n : ℕ) (E : Members) (s many d : ℕ) (h : d < 15) where
  of_length : (start : ℕ → Row) (k : ℕ) → total 0 ◌+◌ (map (λ w. count_at w d) (arriving later n E start s k)) ≡ sum_below n (λ a. count n E a s k * cond (leb k d) (count_at (start a) (d - k)) 0)
  unfolding count
  of_length start k =
      ap (total 0 ◌+◌) (map_join (λ w. count_at w d) (λ a. map (λ path. times later k (start a)) (chains n E a s k)) (below n))
      ∙ total_join number_laws (λ a. map (λ w. count_at w d) (map (λ path. times later k (start a)) (chains n E a s k))) (below n)
      ∙ ap (total 0 ◌+◌)
      (map_same
      (λ a. ap (total 0 ◌+◌) (map_map (λ w. count_at w d) (λ path. times later k (start a)) (chains n E a s k))
      ∙ repeated (count_at (times later k (start a)) d) (chains n E a s k)
      ∙ ap (λ m. length (chains n E a s k) * m) (later_times k d h (start a)))
      (below n))
      ∙ total_below (λ a. length (chains n E a s k) * cond (leb k d) (count_at (start a) (d - k)) 0) n

  pub row_counts : (start : ℕ → Row) → count_at (total no_counts added (arrivals later n E start s many)) d ≡ limited (arrived n E (λ a. count_at (start a)) s many d)
  unfolding arrivals arrived
  row_counts start =
      total_counts d h (arrivals later n E start s many)
      ∙ ap limited
      (ap (total 0 ◌+◌) (map_join (λ w. count_at w d) (arriving later n E start s) (below many))
      ∙ total_join number_laws (λ k. map (λ w. count_at w d) (arriving later n E start s k)) (below many)
      ∙ total_below (λ k. total 0 ◌+◌ (map (λ w. count_at w d) (arriving later n E start s k))) many
      ∙ sum_same many (λ k. total 0 ◌+◌ (map (λ w. count_at w d) (arriving later n E start s k)))
      (λ k. sum_below n (λ a. count n E a s k * cond (leb k d) (count_at (start a) (d - k)) 0)) (λ k l. of_length start k))

  -- the same for each mark of three rows
  pub rows_count : (start : ℕ → Rows) (m : Mark) → row_at (total no_rows added_rows (arrivals later_rows n E start s many)) m d ≡ limited (arrived n E (λ a. row_at (start a) m) s many d)
  rows_count start (Signed Plus) =
      ap (λ x. count_at x d) (carried no_rows added_rows later_rows no_counts added later (λ (x : Rows). x.plus) refl (λ x y. refl) (λ x. refl) n E start s many) ∙ row_counts (λ a. (start a).plus)
  rows_count start (Signed Minus) =
      ap (λ x. count_at x d) (carried no_rows added_rows later_rows no_counts added later (λ (x : Rows). x.minus) refl (λ x y. refl) (λ x. refl) n E start s many) ∙ row_counts (λ a. (start a).minus)
  rows_count start Default =
      ap (λ x. count_at x d) (carried no_rows added_rows later_rows no_counts added later (λ (x : Rows). x.default) refl (λ x y. refl) (λ x. refl) n E start s many) ∙ row_counts (λ a. (start a).default)

-- so a count that is the limited number of arrivals is exact below the limit
pub counted : (n : ℕ) (E : Members) (start : ℕ → ℕ → ℕ) (s : ℕ) (r : ℕ → ℕ) → ((d : ℕ) → d < 15 → r d ≡ limited (arrived n E start s 8 d)) →
    (Short E → (many : ℕ) → 8 ≤ many → (d : ℕ) → d < 15 → r d ≡ limited (arrived n E start s many d)) → ArrivalsCounted n E start s r
counted n E start s r answer every = record { answer = answer; exact = λ d h few. let e = answer d h in omega arith; every = every }
