-- Counting the rows of chains and of one grant. Assumes nothing.
use Rattle.std.proofs.Common.{◌≡◌, ℕ, ◌+◌, ◌*◌, Bool, true, false, cond, ◌&&◌, eqb, List, [], ◌++◌, map, length, sum_by, sym, refl, ap, ◌∙◌, mul_comm, zero-mul, arith}
use Rattle.lists.specs.Lists.{below, join_all, sum_below}
use Rattle.lists.proofs.Sums.{sum_same, sum_zero, sum_times}
use Rattle.lists.proofs.Kept.{kept_append, kept_joined, kept_same, sum_by_same, sum_by_same_all, sum_by_below}
use Rattle.chains.specs.Chains.{Members, chains, count}
use Rattle.plans.specs.Items.{Items, item_chains}
use Rattle.strategies.specs.Resolve.{same_sign}
use Rattle.strategies.specs.Rows.{counted, same_mark}
use Rattle.strategies.specs.declared.marks.Sign.{Sign}
use Rattle.strategies.specs.declared.marks.Mark.{Mark}
use Rattle.strategies.specs.declared.marks.Mark.TheVariants.{Signed, Default}
use Rattle.strategies.specs.declared.marks.Arrival.{Arrival}
use Rattle.model.specs.Question.{over_chains, grant_arrivals}
use Rattle.model.specs.Counted.{listed_lengths, products, of_grant}
use Rattle.model.specs.declared.grant.Grant.{Grant}

module _ (m : Mark) (d : ℕ) where
  pub counted_append : (xs ys : List Arrival) → counted m (xs ++ ys) d ≡ counted m xs d + counted m ys d
  unfolding counted
  counted_append xs ys = kept_append (λ r. same_mark m r.mark && eqb r.distance d) xs ys

  pub counted_joined : {A : Type 0} (f : A → List Arrival) (xs : List A) → counted m (join_all f xs) d ≡ sum_by (λ x. counted m (f x) d) xs
  unfolding counted
  counted_joined f xs = kept_joined (λ r. same_mark m r.mark && eqb r.distance d) f xs

  pub counted_same : {A : Type 0} (t : Mark) (e : ℕ) (xs : List A) →
      counted m (map (λ x. record { mark = t; distance = e }) xs) d ≡ cond (same_mark m t && eqb e d) (length xs) 0
  unfolding counted
  counted_same t e xs = kept_same (λ r. same_mark m r.mark && eqb r.distance d) (record { mark = t; distance = e }) xs

  pub counted_chains : (n : ℕ) (E : Members) (a s : ℕ) (t : Mark) (more : ℕ) →
      counted m (over_chains n E a s t more) d ≡ sum_below 8 (λ k. cond (same_mark m t && eqb (k + more) d) (count n E a s k) 0)
  unfolding over_chains count
  counted_chains n E a s t more =
      counted_joined (λ k. map (λ path. record { mark = t; distance = k + more }) (chains n E a s k)) (below 8)
      ∙ sum_by_same (λ k. counted m (map (λ path. record { mark = t; distance = k + more }) (chains n E a s k)) d)
      (λ k. cond (same_mark m t && eqb (k + more) d) (count n E a s k) 0)
      (λ k. counted_same t (k + more) (chains n E a s k)) (below 8)
      ∙ sum_by_below (λ k. cond (same_mark m t && eqb (k + more) d) (count n E a s k) 0) 8

  -- the arrivals that one grant of the right gives
  counted_pairs : (n : ℕ) (E : Members) (I : Items) (a s b o : ℕ) (t : Mark) →
      counted m (join_all (λ j. join_all (λ path. over_chains n E a s t j) (item_chains I b o j)) (below 8)) d
      ≡ sum_below 8 (λ j. sum_below 8 (λ k. cond (same_mark m t && eqb (k + j) d) (count n E a s k) 0) * length (item_chains I b o j))
  counted_pairs n E I a s b o t =
      counted_joined (λ j. join_all (λ path. over_chains n E a s t j) (item_chains I b o j)) (below 8)
      ∙ sum_by_same (λ j. counted m (join_all (λ path. over_chains n E a s t j) (item_chains I b o j)) d) pairs each (below 8)
      ∙ sum_by_below pairs 8
    where
      pairs : ℕ → ℕ
      pairs j = sum_below 8 (λ k. cond (same_mark m t && eqb (k + j) d) (count n E a s k) 0) * length (item_chains I b o j)

      each : (j : ℕ) → counted m (join_all (λ path. over_chains n E a s t j) (item_chains I b o j)) d ≡ pairs j
      each j =
          counted_joined (λ (path : List ℕ). over_chains n E a s t j) (item_chains I b o j)
          ∙ sum_by_same_all (counted m (over_chains n E a s t j) d) (item_chains I b o j)
          ∙ ap (λ x. length (item_chains I b o j) * x) (counted_chains n E a s t j)
          ∙ mul_comm (length (item_chains I b o j)) _

-- a factor under a test
cond_times : (t : Bool) (x y : ℕ) → cond t x 0 * y ≡ cond t (x * y) 0
cond_times t x y = grind arith

pairs_products : (f g : ℕ → ℕ) (d : ℕ) → sum_below 8 (λ j. sum_below 8 (λ i. cond (eqb (i + j) d) (f i) 0) * g j) ≡ products f g d
unfolding products
pairs_products f g d =
    sum_same 8 (λ j. sum_below 8 (λ i. cond (eqb (i + j) d) (f i) 0) * g j) (λ j. sum_below 8 (λ i. cond (eqb (i + j) d) (f i * g j) 0))
    (λ j l.
    sym (sum_times 8 (λ i. cond (eqb (i + j) d) (f i) 0) (g j))
    ∙ sum_same 8 (λ i. cond (eqb (i + j) d) (f i) 0 * g j) (λ i. cond (eqb (i + j) d) (f i * g j) 0)
    (λ i k. cond_times (eqb (i + j) d) (f i) (g j)))

-- nothing of another mark is counted
no_pairs : (f g : ℕ → ℕ) (d : ℕ) → sum_below 8 (λ j. sum_below 8 (λ i. cond (false && eqb (i + j) d) (f i) 0) * g j) ≡ 0
no_pairs f g d =
    sum_zero 8 (λ j. sum_below 8 (λ i. cond (false && eqb (i + j) d) (f i) 0) * g j)
    (λ j l. ap (λ x. x * g j) (sum_zero 8 (λ i. cond (false && eqb (i + j) d) (f i) 0) (λ i k. refl)) ∙ zero-mul (g j))

module _ (n : ℕ) (E : Members) (I : Items) (s o r : ℕ) (d : ℕ) (g : Grant) where
  pub counted_grant : (sign : Sign) → counted (Signed sign) (grant_arrivals n E I s o r g) d ≡ of_grant n E (listed_lengths I o) s r sign d g
  unfolding grant_arrivals of_grant counted
  counted_grant sign = step (eqb g.right r)
    where
      pick : (t : Bool) →
          sum_below 8 (λ j. sum_below 8 (λ k. cond (t && eqb (k + j) d) (count n E g.account s k) 0) * length (item_chains I g.item o j))
          ≡ cond t (products (count n E g.account s) (λ j. length (item_chains I g.item o j)) d) 0
      pick true = pairs_products (count n E g.account s) (λ j. length (item_chains I g.item o j)) d
      pick false = no_pairs (count n E g.account s) (λ j. length (item_chains I g.item o j)) d

      step : (t : Bool) →
          counted (Signed sign)
          (cond t (join_all (λ j. join_all (λ path. over_chains n E g.account s (Signed g.sign) j) (item_chains I g.item o j)) (below 8)) [])
          d
          ≡ cond (t && same_sign sign g.sign) (products (count n E g.account s) (λ j. length (item_chains I g.item o j)) d) 0
      step true = counted_pairs (Signed sign) d n E I g.account s g.item o (Signed g.sign) ∙ pick (same_sign sign g.sign)
      step false = refl

  pub no_default : counted Default (grant_arrivals n E I s o r g) d ≡ 0
  unfolding grant_arrivals counted
  no_default = step (eqb g.right r)
    where
      step : (t : Bool) →
          counted Default
          (cond t (join_all (λ j. join_all (λ path. over_chains n E g.account s (Signed g.sign) j) (item_chains I g.item o j)) (below 8)) [])
          d
          ≡ 0
      step true =
          counted_pairs Default d n E I g.account s g.item o (Signed g.sign)
          ∙ no_pairs (count n E g.account s) (λ j. length (item_chains I g.item o j)) d
      step false = refl
