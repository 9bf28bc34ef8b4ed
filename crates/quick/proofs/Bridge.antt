-- The counts of a listing, from what is read of the tables. Assumes nothing.
use Rattle.std.proofs.Common.{◌≡◌, ℕ, ◌+◌, ◌*◌, ◌<◌, ◌≤◌, Bool, true, false, cond, not, ◌&&◌, ◌||◌, eqb, ltb, ◌⊎◌, List, [], ◌∷◌, get_or, sum_by, sym, refl, ap, ◌∙◌, ap₂, inl, inr, arith}
use Rattle.std.specs.List.{AllByRecursion}
use Rattle.std.proofs.ByRecursion.{All-weaker}
use Rattle.std.proofs.lemmas.List.{get_or_past}
use Rattle.std.proofs.lemmas.List.Sums.{sum_by-cons}
use Rattle.std.proofs.lemmas.Bool.{cases_lt}
use Rattle.lists.specs.Lists.{below, some, sum_below}
use Rattle.lists.proofs.Sums.{sum_same}
use Rattle.chains.specs.Chains.{Members, count}
use Rattle.chains.specs.Tests.{groupless}
use Rattle.plans.specs.Counts.{entry, CountsItems}
use Rattle.plans.specs.Items.{Items}
use Rattle.strategies.specs.Resolve.{same_sign}
use Rattle.strategies.specs.Rows.{CountsOf, counted, row_at}
use Rattle.strategies.specs.declared.marks.Sign.{Sign}
use Rattle.strategies.specs.declared.marks.Sign.TheVariants.{Plus, Minus}
use Rattle.strategies.specs.declared.marks.Mark.{Mark}
use Rattle.strategies.specs.declared.marks.Mark.TheVariants.{Signed, Default}
use Rattle.strategies.specs.declared.rows.Rows.{Rows}
use Rattle.model.specs.Model.{Model}
use Rattle.model.specs.Question.{listing}
use Rattle.model.specs.Counted.{Lengths, above_by, labelled_by, labels, listed_lengths, of_accounts, of_grant, of_grants, products, unmarked_by}
use Rattle.model.specs.declared.grant.Grant.{Grant}
use Rattle.model.proofs.Bounds.{all_below, counted_far}
use Rattle.model.proofs.Counting.{counted_default, counted_signed}
use Rattle.quick.specs.Sums.{defaults_below}

sum_by_same_on : {A : Type 0} (f g : A → ℕ) (xs : List A) → AllByRecursion (λ x. f x ≡ g x) xs → sum_by f xs ≡ sum_by g xs
sum_by_same_on f g [] a = refl
sum_by_same_on f g (x ∷ xs) a =
    let first = a.0 in
    let rest = sum_by_same_on f g xs a.1 in
    let left = sum_by-cons f x xs in
    let right = sum_by-cons g x xs in
    omega arith

some_on : {A : Type 0} (f g : A → Bool) (xs : List A) → AllByRecursion (λ x. f x ≡ g x) xs → some f xs ≡ some g xs
some_on f g [] a = refl
some_on f g (x ∷ xs) a = ap₂ (λ y z. y || z) a.0 (some_on f g xs a.1)

module _ (L K : Lengths) (same : (b j : ℕ) → b < 256 → L b j ≡ K b j) where
  products_same : (f : ℕ → ℕ) (b d : ℕ) → b < 256 → products f (L b) d ≡ products f (K b) d
  unfolding products
  products_same f b d l =
      sum_same 8 (λ j. sum_below 8 (λ i. cond (eqb (i + j) d) (f i * L b j) 0)) (λ j. sum_below 8 (λ i. cond (eqb (i + j) d) (f i * K b j) 0))
      (λ j u. ap (λ x. sum_below 8 (λ i. cond (eqb (i + j) d) (f i * x) 0)) (same b j l))

  above_same : (b : ℕ) → b < 256 → above_by L b ≡ above_by K b
  unfolding above_by
  above_same b l =
      some_on (λ k. ltb 0 (L b k)) (λ k. ltb 0 (K b k)) (below 8)
      (All-weaker (λ k. k < 8) (λ k. ltb 0 (L b k) ≡ ltb 0 (K b k)) (λ k u. ap (λ x. ltb 0 x) (same b k l)) (below 8) (all_below 8))

  module _ (n : ℕ) (E : Members) (grants : List Grant) (known : AllByRecursion (λ g. g.item < 256) grants) (s r : ℕ) where
    pub of_grants_same : (sign : Sign) (d : ℕ) → of_grants n E grants L s r sign d ≡ of_grants n E grants K s r sign d
    unfolding of_grants of_grant
    of_grants_same sign d =
        sum_by_same_on (of_grant n E L s r sign d) (of_grant n E K s r sign d) grants
        (All-weaker (λ g. g.item < 256) (λ g. of_grant n E L s r sign d g ≡ of_grant n E K s r sign d g)
        (λ g l. ap (λ x. cond (eqb g.right r && same_sign sign g.sign) x 0) (products_same (count n E g.account s) g.item d l))
        grants known)

    unmarked_same : (a : ℕ) → unmarked_by n E grants L r a ≡ unmarked_by n E grants K r a
    unfolding unmarked_by labelled_by
    unmarked_same a =
        ap (λ t. groupless n E a && not t)
        (some_on (labels L r a) (labels K r a) grants
        (All-weaker (λ g. g.item < 256) (λ g. labels L r a g ≡ labels K r a g)
        (λ g l. ap (λ t. eqb g.account a && (eqb g.right r && t)) (above_same g.item l)) grants known))

    pub of_accounts_same : (d : ℕ) → of_accounts n E grants L s r d ≡ of_accounts n E grants K s r d
    unfolding of_accounts
    of_accounts_same d =
        sum_same n (λ a. cond (unmarked_by n E grants L r a) (cond (ltb d 8) (count n E a s d) 0) 0)
        (λ a. cond (unmarked_by n E grants K r a) (cond (ltb d 8) (count n E a s d) 0) 0)
        (λ a u. ap (λ t. cond t (cond (ltb d 8) (count n E a s d) 0) 0) (unmarked_same a))

-- default marks from accounts that are not held back
pub defaults_all : (n : ℕ) (E : Members) (gs : List Grant) (L : Lengths) (held : List Bool) (s r d : ℕ) → n ≤ 64 → ((a : ℕ) → a < 64 → get_or held a false ≡ labelled_by gs L r a) →
    defaults_below n n E held s d ≡ of_accounts n E gs L s r d
unfolding defaults_below of_accounts unmarked_by
defaults_all n E gs L held s r d small is =
    sum_same n (λ a. cond (get_or held a false) 0 (cond (groupless n E a) (cond (ltb d 8) (count n E a s d) 0) 0))
    (λ a. cond (groupless n E a && not (labelled_by gs L r a)) (cond (ltb d 8) (count n E a s d) 0) 0)
    (λ a l. ap (λ t. cond t 0 (cond (groupless n E a) (cond (ltb d 8) (count n E a s d) 0) 0)) (is a (omega arith))
    ∙ swap (labelled_by gs L r a) (groupless n E a) (cond (ltb d 8) (count n E a s d) 0))
  where
    swap : (h g : Bool) (x : ℕ) → cond h 0 (cond g x 0) ≡ cond (g && not h) x 0
    swap true true x = refl
    swap true false x = refl
    swap false true x = refl
    swap false false x = refl

-- rows that are read off the tables count the listing
module _ (n : ℕ) (M : Model) (I : Items) (s o r : ℕ) (counts : List (List ℕ)) (is : CountsItems I o counts) (known : AllByRecursion (λ g. g.item < 256) M.grants) (rows : Rows) where
  from_sums : ((d : ℕ) → d < 15 → get_or rows.plus.counts d 0 ≡ of_grants n M.members M.grants (entry counts) s r Plus d) →
      ((d : ℕ) → d < 15 → get_or rows.minus.counts d 0 ≡ of_grants n M.members M.grants (entry counts) s r Minus d) →
      ((d : ℕ) → d < 15 → get_or rows.default.counts d 0 ≡ of_accounts n M.members M.grants (entry counts) s r d) →
      (m : Mark) (d : ℕ) → d < 15 → counted m (listing n M I s o r) d ≡ row_at rows m d
  from_sums p m x (Signed Plus) d l = counted_signed n M I s o r d Plus ∙ sym (p d l ∙ of_grants_same (entry counts) (listed_lengths I o) is n M.members M.grants known s r Plus d)
  from_sums p m x (Signed Minus) d l = counted_signed n M I s o r d Minus ∙ sym (m d l ∙ of_grants_same (entry counts) (listed_lengths I o) is n M.members M.grants known s r Minus d)
  from_sums p m x Default d l = counted_default n M I s o r d ∙ sym (x d l ∙ of_accounts_same (entry counts) (listed_lengths I o) is n M.members M.grants known s r d)

  past : (m : Mark) (d : ℕ) → 15 ≤ d → row_at rows m d ≡ 0
  past (Signed Plus) d l = get_or_past rows.plus.counts d 0 (omega (arith, rows.plus.long))
  past (Signed Minus) d l = get_or_past rows.minus.counts d 0 (omega (arith, rows.minus.long))
  past Default d l = get_or_past rows.default.counts d 0 (omega (arith, rows.default.long))

  pub counts_listing : ((d : ℕ) → d < 15 → get_or rows.plus.counts d 0 ≡ of_grants n M.members M.grants (entry counts) s r Plus d) →
      ((d : ℕ) → d < 15 → get_or rows.minus.counts d 0 ≡ of_grants n M.members M.grants (entry counts) s r Minus d) →
      ((d : ℕ) → d < 15 → get_or rows.default.counts d 0 ≡ of_accounts n M.members M.grants (entry counts) s r d) →
      CountsOf rows (listing n M I s o r)
  counts_listing p m x mark d = split (cases_lt d 15)
    where
      split : (d < 15) ⊎ (15 ≤ d) → counted mark (listing n M I s o r) d ≡ row_at rows mark d
      split (inl l) = from_sums p m x mark d l
      split (inr l) = counted_far n M I s o r mark d l ∙ sym (past mark d l)
