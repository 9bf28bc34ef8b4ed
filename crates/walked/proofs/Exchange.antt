-- Walked down from what the accounts start with, the arrivals are those that the grants and the default marks give. Assumes nothing.
use Rattle.std.proofs.Common.{◌≡◌, ℕ, ◌+◌, ◌-◌, ◌*◌, ◌<◌, ◌≤◌, Bool, true, false, cond, ◌&&◌, eqb, ltb, leb, ◌⊎◌, List, [], ◌∷◌, sum_by, sym, refl, ap, ◌∙◌, ap₂, inl, inr, mul-zero, mul-add, arith}
use Rattle.std.specs.List.{AllByRecursion}
use Rattle.std.proofs.lemmas.List.Sums.{sum_by-cons}
use Rattle.std.proofs.lemmas.Bool.{cases_lt, cond-true, cond-false, eq-eqb, ne_eqb, le-leb, lt-leb, lt-ltb, le-ltb}
use Rattle.lists.specs.Lists.{sum_below}
use Rattle.lists.proofs.Sums.{sum_same, sum_zero, sum_one, sum_add}
use Rattle.chains.specs.Chains.{Members, count}
use Rattle.strategies.specs.Resolve.{same_sign}
use Rattle.strategies.specs.declared.marks.Sign.{Sign}
use Rattle.walk.specs.Meaning.{arrived}
use Rattle.walk.proofs.RowMeans.{arrived_by_account}
use Rattle.model.specs.Counted.{Lengths, products, of_grant, of_grants, unmarked_by, of_accounts}
use Rattle.model.specs.declared.grant.Grant.{Grant}
use Rattle.walked.specs.Starts.{given_by, started}
use Rattle.walked.specs.Defaults.{one_at_0}
use Rattle.walked.proofs.Products.{products_by_length}

-- what account a brings to distance d, if it starts with x
abbrev brings : (ℕ → ℕ) → (ℕ → ℕ) → ℕ → ℕ
brings f x d = sum_below 8 (λ k. f k * cond (leb k d) (x (d - k)) 0)

brings_none : (f x : ℕ → ℕ) → ((e : ℕ) → x e ≡ 0) → (d : ℕ) → brings f x d ≡ 0
brings_none f x h d =
    sum_zero 8 (λ k. f k * cond (leb k d) (x (d - k)) 0) (λ k l. ap (λ y. f k * y) (under (leb k d) (x (d - k)) (h (d - k))) ∙ mul-zero (f k))
  where
    under : (t : Bool) (y : ℕ) → y ≡ 0 → cond t y 0 ≡ 0
    under true y e = e
    under false y e = refl

brings_both : (f x y : ℕ → ℕ) (d : ℕ) → brings f (λ e. x e + y e) d ≡ brings f x d + brings f y d
brings_both f x y d =
    sum_same 8 (λ k. f k * cond (leb k d) (x (d - k) + y (d - k)) 0)
    (λ k. f k * cond (leb k d) (x (d - k)) 0 + f k * cond (leb k d) (y (d - k)) 0)
    (λ k l. ap (λ z. f k * z) (under (leb k d) (x (d - k)) (y (d - k))) ∙ mul-add (f k) (cond (leb k d) (x (d - k)) 0) (cond (leb k d) (y (d - k)) 0))
    ∙ sum_add 8 (λ k. f k * cond (leb k d) (x (d - k)) 0) (λ k. f k * cond (leb k d) (y (d - k)) 0)
  where
    under : (t : Bool) (p q : ℕ) → cond t (p + q) 0 ≡ cond t p 0 + cond t q 0
    under true p q = refl
    under false p q = refl

brings_same : (f x y : ℕ → ℕ) → ((e : ℕ) → x e ≡ y e) → (d : ℕ) → brings f x d ≡ brings f y d
brings_same f x y h d =
    sum_same 8 (λ k. f k * cond (leb k d) (x (d - k)) 0) (λ k. f k * cond (leb k d) (y (d - k)) 0)
    (λ k l. ap (λ z. f k * cond (leb k d) z 0) (h (d - k)))

module _ (n : ℕ) (E : Members) (L : Lengths) (s r : ℕ) (sign : Sign) (d : ℕ) (none : (b j : ℕ) → 8 ≤ j → L b j ≡ 0) where
  -- what all accounts bring of one grant is what the grant gives
  of_one : (g : Grant) → g.account < n →
      sum_below n (λ a. brings (count n E a s) (λ e. given_by L r a sign e g) d) ≡ of_grant n E L s r sign d g
  unfolding of_grant
  of_one g known = step (eqb g.right r && same_sign sign g.sign)
    where
      mine : Bool → ℕ → ℕ → ℕ
      mine t a e = cond (eqb g.account a && t) (L g.item e) 0

      all_of : Bool → ℕ → ℕ
      all_of t a = brings (count n E a s) (mine t a) d

      away : (a : ℕ) → (a ≡ g.account → ⊥) → (t : Bool) (e : ℕ) → mine t a e ≡ 0
      away a ne t e = ap (λ b. cond (b && t) (L g.item e) 0) (ne_eqb g.account a (λ q. ne (sym q)))

      off : (b : Bool) (x : ℕ) → cond (b && false) x 0 ≡ 0
      off true x = refl
      off false x = refl

      step : (t : Bool) → sum_below n (all_of t) ≡ cond t (products (count n E g.account s) (L g.item) d) 0
      step true =
          sum_one n (all_of true) g.account known (λ a l ne. brings_none (count n E a s) (mine true a) (away a ne true) d)
          ∙ brings_same (count n E g.account s) (mine true g.account) (L g.item)
          (λ e. ap (λ b. cond (b && true) (L g.item e) 0) (eq-eqb g.account g.account refl)) d
          ∙ products_by_length (count n E g.account s) (L g.item) (none g.item) d
      step false =
          sum_zero n (all_of false) (λ a l. brings_none (count n E a s) (mine false a) (λ e. off (eqb g.account a) (L g.item e)) d)

  by_account : (grants : List Grant) → AllByRecursion (λ g. g.account < n) grants →
      sum_below n (λ a. brings (count n E a s) (λ e. started grants L r a sign e) d) ≡ of_grants n E grants L s r sign d
  unfolding started of_grants
  by_account [] known = sum_zero n (λ a. brings (count n E a s) (λ e. 0) d) (λ a l. brings_none (count n E a s) (λ e. 0) (λ e. refl) d)
  by_account (g ∷ gs) known =
      sum_same n (λ a. brings (count n E a s) (λ e. sum_by (given_by L r a sign e) (g ∷ gs)) d)
      (λ a. brings (count n E a s) (λ e. given_by L r a sign e g) d + brings (count n E a s) (λ e. sum_by (given_by L r a sign e) gs) d)
      (λ a l.
      brings_same (count n E a s) (λ e. sum_by (given_by L r a sign e) (g ∷ gs)) (λ e. given_by L r a sign e g + sum_by (given_by L r a sign e) gs)
      (λ e. sum_by-cons (given_by L r a sign e) g gs) d
      ∙ brings_both (count n E a s) (λ e. given_by L r a sign e g) (λ e. sum_by (given_by L r a sign e) gs) d)
      ∙ sum_add n (λ a. brings (count n E a s) (λ e. given_by L r a sign e g) d) (λ a. brings (count n E a s) (λ e. sum_by (given_by L r a sign e) gs) d)
      ∙ ap₂ (λ x y. x + y) (of_one g known.0) (by_account gs known.1)
      ∙ sym (sum_by-cons (of_grant n E L s r sign d) g gs)

  -- started from the accounts' own grants, what arrives is what all grants give
  pub walked_signed : (grants : List Grant) → AllByRecursion (λ g. g.account < n) grants →
      arrived n E (λ a e. started grants L r a sign e) s 8 d ≡ of_grants n E grants L s r sign d
  walked_signed grants known = arrived_by_account n E (λ a e. started grants L r a sign e) s 8 d ∙ by_account grants known

-- one mark at distance 0
brings_one : (f : ℕ → ℕ) (d : ℕ) → brings f one_at_0 d ≡ cond (ltb d 8) (f d) 0
brings_one f d = split (cases_lt d 8)
  where
    other : (k : ℕ) → (k ≡ d → ⊥) → f k * cond (leb k d) (one_at_0 (d - k)) 0 ≡ 0
    other k ne = ap (λ y. f k * y) (away (cases_lt d k)) ∙ mul-zero (f k)
      where
        away : (d < k) ⊎ (k ≤ d) → cond (leb k d) (one_at_0 (d - k)) 0 ≡ 0
        away (inl l) = cond-false (leb k d) (one_at_0 (d - k)) 0 (lt-leb k d l)
        away (inr l) =
            cond-true (leb k d) (one_at_0 (d - k)) 0 (le-leb k d l)
            ∙ cond-false {A = ℕ} (eqb (d - k) 0) 1 0 (ne_eqb (d - k) 0 (λ e. ne (omega arith)))

    split : (d < 8) ⊎ (8 ≤ d) → brings f one_at_0 d ≡ cond (ltb d 8) (f d) 0
    split (inl l) =
        let one : ◌≡◌ {A = ℕ} (cond (leb d d) (one_at_0 (d - d)) 0) 1 =
        cond-true (leb d d) (one_at_0 (d - d)) 0 (le-leb d d (omega arith)) ∙ cond-true {A = ℕ} (eqb (d - d) 0) 1 0 (eq-eqb (d - d) 0 (omega arith)) in
        sum_one 8 (λ k. f k * cond (leb k d) (one_at_0 (d - k)) 0) d l (λ k b ne. other k ne)
        ∙ ap (λ y. f d * y) one ∙ omega arith ∙ sym (cond-true (ltb d 8) (f d) 0 (lt-ltb d 8 l))
    split (inr l) =
        sum_zero 8 (λ k. f k * cond (leb k d) (one_at_0 (d - k)) 0) (λ k b. other k (λ e. omega arith))
        ∙ sym (cond-false (ltb d 8) (f d) 0 (le-ltb d 8 l))

-- started with a mark at each account that gives one, what arrives is the default marks
pub walked_default : (n : ℕ) (E : Members) (grants : List Grant) (L : Lengths) (s r d : ℕ) →
    arrived n E (λ a e. cond (unmarked_by n E grants L r a) (one_at_0 e) 0) s 8 d ≡ of_accounts n E grants L s r d
unfolding of_accounts
walked_default n E grants L s r d =
    arrived_by_account n E (λ a e. cond (unmarked_by n E grants L r a) (one_at_0 e) 0) s 8 d
    ∙ sum_same n (λ a. brings (count n E a s) (λ e. cond (unmarked_by n E grants L r a) (one_at_0 e) 0) d)
    (λ a. cond (unmarked_by n E grants L r a) (cond (ltb d 8) (count n E a s d) 0) 0) (λ a l. pick (unmarked_by n E grants L r a) a)
  where
    pick : (t : Bool) (a : ℕ) → brings (count n E a s) (λ e. cond t (one_at_0 e) 0) d ≡ cond t (cond (ltb d 8) (count n E a s d) 0) 0
    pick true a = brings_one (count n E a s) d
    pick false a = brings_none (count n E a s) (λ e. 0) (λ e. refl) d

-- what arrives depends on the starts at the distances that can be reached
pub arrived_same : (n : ℕ) (E : Members) (x y : ℕ → ℕ → ℕ) (s d : ℕ) → ((a e : ℕ) → a < n → e ≤ d → x a e ≡ y a e) →
    arrived n E x s 8 d ≡ arrived n E y s 8 d
arrived_same n E x y s d h =
    arrived_by_account n E x s 8 d
    ∙ sum_same n (λ a. brings (count n E a s) (x a) d) (λ a. brings (count n E a s) (y a) d)
    (λ a l. sum_same 8 (λ k. count n E a s k * cond (leb k d) (x a (d - k)) 0) (λ k. count n E a s k * cond (leb k d) (y a (d - k)) 0)
    (λ k b. ap (λ z. count n E a s k * cond (leb k d) z 0) (h a (d - k) l (omega arith))))
    ∙ sym (arrived_by_account n E y s 8 d)
