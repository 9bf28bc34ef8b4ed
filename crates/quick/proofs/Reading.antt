-- Rows of chain counts, read off a table. Assumes nothing.
use Rattle.std.proofs.Common.{◌≡◌, ℕ, ◌+◌, ◌*◌, ◌<◌, ◌≤◌, Bool, cond, ◌||◌, eqb, ltb, ◌⊎◌, List, [], ◌∷◌, map, length, get_or, refl, ap, ◌∙◌, inl, inr, arith}
use Rattle.std.specs.List.{range_with_len}
use Rattle.std.proofs.lemmas.List.FromFn.{fill_by_all, get_or-map-range_with_len}
use Rattle.std.proofs.lemmas.List.{get_or_past}
use Rattle.std.proofs.lemmas.Bool.{cases_lt}
use Rattle.lists.specs.Lists.{below, some, sum_below}
use Rattle.lists.proofs.Sums.{sum_same}
use Rattle.chains.specs.Chains.{Members, count}
use Rattle.chains.specs.Table.{row_of}
use Rattle.chains.proofs.Told.{many_none}
use Rattle.plans.specs.Counts.{entry, row_at}
use Rattle.table.specs.Tables.{members_in}
use Rattle.table.specs.declared.tables.Table.{Table}
use Rattle.model.specs.Counted.{above_by, products}

module _ (n : ℕ) (E : Members) (a s : ℕ) where
  pub row_entry : (k : ℕ) → k < 8 → get_or (row_of n E a s) k 0 ≡ count n E a s k
  row_entry k l = get_or-map-range_with_len (count n E a s) 0 8 k k 0 l (omega arith)

  pub row_past : (k : ℕ) → 8 ≤ k → get_or (row_of n E a s) k 0 ≡ 0
  row_past k l = get_or_past (row_of n E a s) k 0 l

  -- pairs with a row are pairs with the counts
  pub products_row : (g : ℕ → ℕ) (d : ℕ) → products (λ i. get_or (row_of n E a s) i 0) g d ≡ products (count n E a s) g d
  unfolding products
  products_row g d =
      sum_same 8 (λ j. sum_below 8 (λ i. cond (eqb (i + j) d) (get_or (row_of n E a s) i 0 * g j) 0)) (λ j. sum_below 8 (λ i. cond (eqb (i + j) d) (count n E a s i * g j) 0))
      (λ j l.
      sum_same 8 (λ i. cond (eqb (i + j) d) (get_or (row_of n E a s) i 0 * g j) 0) (λ i. cond (eqb (i + j) d) (count n E a s i * g j) 0)
      (λ i u. ap (λ x. cond (eqb (i + j) d) (x * g j) 0) (row_entry i u)))

-- no count of a table is large
pub count_few : (t : Table) → (a s k : ℕ) → a < t.accounts → s < t.accounts → k < 8 → count t.accounts (members_in t) a s k ≤ 99999
count_few t a s k la ls lk = many_none t.accounts (members_in t) t.few a s k la ls lk

pub row_few : (t : Table) → (a s : ℕ) → a < t.accounts → s < t.accounts → (k : ℕ) → get_or (row_of t.accounts (members_in t) a s) k 0 ≤ 99999
row_few t a s la ls k = split (cases_lt k 8)
  where
    split : (k < 8) ⊎ (8 ≤ k) → get_or (row_of t.accounts (members_in t) a s) k 0 ≤ 99999
    split (inl l) = let e = row_entry t.accounts (members_in t) a s k l in let f = count_few t a s k la ls l in omega arith
    split (inr l) = let e = row_past t.accounts (members_in t) a s k l in omega arith

some_map : {A B : Type 0} (f : B → Bool) (g : A → B) (xs : List A) → some f (map g xs) ≡ some (λ x. f (g x)) xs
some_map f g [] = refl
some_map f g (x ∷ xs) = ap (λ t. f (g x) || t) (some_map f g xs)

-- a row of eight has a count that is not 0 exactly if one of the eight is not
pub any_of_eight : (xs : List ℕ) → length xs ≡ 8 → some (ltb 0) xs ≡ some (λ k. ltb 0 (get_or xs k 0)) (below 8)
any_of_eight xs long =
    ap (some (ltb 0)) (fill_by_all (λ k. get_or xs k 0) xs 8 0 long (λ k l. refl)) ∙ some_map (ltb 0) (λ k. get_or xs k 0) (range_with_len 0 8)

pub read_few : (t : Table) → (a s : ℕ) → a < t.accounts → s < t.accounts → (row : List ℕ) → row ≡ row_of t.accounts (members_in t) a s →
    (k : ℕ) → get_or row k 0 ≤ 99999
read_few t a s la ls row is k = let same = ap (λ xs. get_or xs k 0) is in let few = row_few t a s la ls k in omega arith

-- whether a chain leads down from an item, read off its row
pub above_read : (counts : List (List ℕ)) (b : ℕ) → length (row_at counts b) ≡ 8 → some (ltb 0) (row_at counts b) ≡ above_by (entry counts) b
unfolding above_by
above_read counts b long = any_of_eight (row_at counts b) long
