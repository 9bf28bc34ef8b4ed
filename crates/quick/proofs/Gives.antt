-- What one grant gives, and what many do. Assumes nothing.
use Rattle.std.proofs.Common.{◌≡◌, ℕ, ◌+◌, ◌*◌, ◌<◌, ◌≤◌, Bool, true, false, cond, ◌&&◌, eqb, List, length, get_or, take, sym, refl, ap, ◌∙◌, mul-le-mul_right, mul-zero, arith}
use Rattle.std.proofs.ByRecursion.{All-from_get_or, All-get_or, sum_by_le}
use Rattle.std.proofs.lemmas.List.Sums.{sum_by-take-le}
use Rattle.std.proofs.lemmas.Bool.{and_from, and_left, and_right, cond_both, cond-false, cond-true, eq-eqb, ne_eqb}
use Rattle.lists.specs.Lists.{some, sum_below}
use Rattle.lists.proofs.Sums.{sum_zero}
use Rattle.chains.specs.Chains.{Members, count}
use Rattle.chains.specs.Table.{row_of}
use Rattle.strategies.specs.Resolve.{same_sign}
use Rattle.strategies.specs.declared.marks.Sign.{Sign}
use Rattle.table.specs.Tables.{members_in}
use Rattle.table.specs.declared.tables.Table.{Table}
use Rattle.model.specs.Grants.{misfit}
use Rattle.model.specs.Counted.{Lengths, of_grant, of_grants, products}
use Rattle.model.proofs.Bounds.{fit_accounts, fit_items}
use Rattle.model.specs.declared.grant.Grant.{Grant}
use Rattle.quick.proofs.Arrivals.{no_grant}
use Rattle.quick.proofs.Pairs.{products_shifted, shifted_sum_few}
use Rattle.quick.proofs.Reading.{products_row, row_few}

module _ (n : ℕ) (E : Members) (L : Lengths) (s r : ℕ) (sign : Sign) (d : ℕ) (g : Grant) where
  pub of_grant_yes : g.right ≡ r → same_sign sign g.sign ≡ true → of_grant n E L s r sign d g ≡ products (count n E g.account s) (L g.item) d
  unfolding of_grant
  of_grant_yes e q =
      cond-true (eqb g.right r && same_sign sign g.sign) (products (count n E g.account s) (L g.item) d) 0
      (and_from (eqb g.right r) (same_sign sign g.sign) (eq-eqb g.right r e) q)

  pub of_grant_right : (g.right ≡ r → ⊥) → of_grant n E L s r sign d g ≡ 0
  unfolding of_grant
  of_grant_right ne =
      cond-false (eqb g.right r && same_sign sign g.sign) (products (count n E g.account s) (L g.item) d) 0
      (and_left (eqb g.right r) (same_sign sign g.sign) (ne_eqb g.right r ne))

  pub of_grant_sign : same_sign sign g.sign ≡ false → of_grant n E L s r sign d g ≡ 0
  unfolding of_grant
  of_grant_sign fails =
      cond-false (eqb g.right r && same_sign sign g.sign) (products (count n E g.account s) (L g.item) d) 0
      (and_right (eqb g.right r) (same_sign sign g.sign) fails)

  -- the pairs with a row of chain counts are what the grant gives
  pub gives : (row : List ℕ) (new old : ℕ) → row ≡ row_of n E g.account s → g.right ≡ r → same_sign sign g.sign ≡ true →
      new ≡ old + products (λ i. get_or row i 0) (L g.item) d → new ≡ old + of_grant n E L s r sign d g
  gives row new old is e q sum =
      sum ∙ ap (λ x. old + x) (ap (λ xs. products (λ i. get_or xs i 0) (L g.item) d) is ∙ products_row n E g.account s (L g.item) d ∙ sym (of_grant_yes e q))

  pub gives_none : (old : ℕ) → same_sign sign g.sign ≡ false → old ≡ old + of_grant n E L s r sign d g
  gives_none old fails = let none = of_grant_sign fails in omega arith

-- without item chains there are no pairs
pub products_no_items : (f g : ℕ → ℕ) (d : ℕ) → ((k : ℕ) → g k ≡ 0) → products f g d ≡ 0
unfolding products
products_no_items f g d none =
    sum_zero 8 (λ j. sum_below 8 (λ i. cond (eqb (i + j) d) (f i * g j) 0))
    (λ j l. sum_zero 8 (λ i. cond (eqb (i + j) d) (f i * g j) 0) (λ i u. each (eqb (i + j) d) i j))
  where
    each : (t : Bool) (i j : ℕ) → cond t (f i * g j) 0 ≡ 0
    each true i j = ap (λ x. f i * x) (none j) ∙ mul-zero (f i)
    each false i j = refl

pub of_grant_no_items : (n : ℕ) (E : Members) (L : Lengths) (s r : ℕ) (sign : Sign) (d : ℕ) (g : Grant) → ((k : ℕ) → L g.item k ≡ 0) → of_grant n E L s r sign d g ≡ 0
unfolding of_grant
of_grant_no_items n E L s r sign d g none = pick (eqb g.right r && same_sign sign g.sign)
  where
    pick : (t : Bool) → cond t (products (count n E g.account s) (L g.item) d) 0 ≡ 0
    pick true = products_no_items (count n E g.account s) (L g.item) d none
    pick false = refl

-- no grant of a table gives much
module _ (t : Table) (L : Lengths) (small : (b k : ℕ) → b < 256 → L b k ≤ 128) (s : ℕ) (end : s < t.accounts) (r : ℕ) (sign : Sign) (d : ℕ) where
  grant_few : (g : Grant) → g.account < t.accounts → g.item < 256 → of_grant t.accounts (members_in t) L s r sign d g ≤ 102398976
  unfolding of_grant
  grant_few g la li =
      cond_both (eqb g.right r && same_sign sign g.sign) (products (count t.accounts (members_in t) g.account s) (L g.item) d) 0
      (λ x. x ≤ 102398976)
      (λ e.
      let same = products_row t.accounts (members_in t) g.account s (L g.item) d in
      let apart = products_shifted (λ i. get_or (row_of t.accounts (members_in t) g.account s) i 0) (L g.item) d in
      let few = shifted_sum_few 8 (λ i. get_or (row_of t.accounts (members_in t) g.account s) i 0) (L g.item) d (omega arith) (row_few t g.account s la end) (λ k. small g.item k li) in
      omega arith)
      (λ e. omega arith)

  pub grants_few : (gs : List Grant) (i : ℕ) → length gs ≤ 512 → some (misfit t.accounts) gs ≡ false → of_grants t.accounts (members_in t) (take i gs) L s r sign d ≤ 52428275712
  unfolding of_grants
  grants_few gs i room fitting =
      let f = of_grant t.accounts (members_in t) L s r sign d in
      let part = sum_by-take-le f gs i in
      let accounts = fit_accounts t.accounts gs fitting in
      let items = fit_items t.accounts gs fitting in
      let most = sum_by_le f 102398976 gs
      (All-from_get_or (λ g. f g ≤ 102398976) gs no_grant
      (λ k l. grant_few (get_or gs k no_grant)
      (All-get_or (λ g. g.account < t.accounts) gs k no_grant l accounts)
      (All-get_or (λ g. g.item < 256) gs k no_grant l items))) in
      let bound : length gs * 102398976 ≤ 512 * 102398976 = mul-le-mul_right 102398976 room in
      omega arith
