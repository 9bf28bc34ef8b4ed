-- What the walk finds from the starts is what grants and accounts give. Assumes nothing.
use Rattle.std.proofs.Common.{◌≡◌, ℕ, ◌+◌, ◌-◌, ◌*◌, ◌<◌, ◌≤◌, Bool, true, false, cond, not, ◌&&◌, eqb, leb, ◌⊎◌, List, length, Option, Some, None, IsSomeAnd, subst, ⊎_elim, sym, refl, ap, ◌∙◌, inl, inr, mul-pos, mul-zero, zero-mul, arith}
use Rattle.std.specs.List.{AllByRecursion}
use Rattle.std.proofs.lemmas.Bool.{cases_eq, cases_lt, cond-true, cond-false, le-leb, lt-leb}
use Rattle.lists.specs.Lists.{sum_below}
use Rattle.lists.proofs.Sums.{sum_zero, sum_has}
use Rattle.chains.specs.Chains.{Members, Within, Chain, count}
use Rattle.chains.specs.Tests.{groupless}
use Rattle.chains.proofs.Listing.{counted_is_chain, chain_is_counted}
use Rattle.chains.proofs.Steps.{chain_top_known}
use Rattle.plans.specs.declared.counts.ItemCounts.{ItemCounts}
use Rattle.strategies.specs.Rows.{row_at}
use Rattle.strategies.specs.declared.marks.Sign.{Sign}
use Rattle.strategies.specs.declared.marks.Sign.TheVariants.{Plus, Minus}
use Rattle.strategies.specs.declared.marks.Mark.{Mark}
use Rattle.strategies.specs.declared.marks.Mark.TheVariants.{Signed, Default}
use Rattle.strategies.specs.declared.rows.Rows.{Rows}
use Rattle.walk.specs.Counts.{limited}
use Rattle.walk.specs.Meaning.{ArrivalsCounted, Nearest}
use Rattle.walk.specs.RowLaws.{count_of}
use Rattle.walk.proofs.RowMeans.{arrived_by_account}
use Rattle.model.specs.Counted.{Lengths, of_grants, unmarked_by}
use Rattle.model.specs.declared.grant.Grant.{Grant}
use Rattle.walked.specs.Starts.{lengths_in, started}
use Rattle.walked.specs.Taking.{start_at, FromGrants}
use Rattle.walked.specs.Defaults.{one_at_0, marked, gives_default, Marked}
use Rattle.walked.specs.Distances.{FirstIfAny, distance_at, NearestStarts}
use Rattle.walked.specs.Asked.{RowsBy}
use Rattle.walked.specs.declared.starts.Starts.{Starts}
use Rattle.walked.proofs.Exchange.{arrived_same, walked_signed, walked_default}
use Rattle.walked.proofs.Lengths.{read_past, started_few, started_past}

-- a default mark leaves the signs as they are
signed_marked : (t : Bool) (x : Rows) (sign : Sign) (d : ℕ) → row_at (cond t (marked x) x) (Signed sign) d ≡ row_at x (Signed sign) d
signed_marked true x Plus d = refl
signed_marked true x Minus d = refl
signed_marked false x sign d = refl

default_marked : (t : Bool) (x : Rows) (d : ℕ) → d < 15 → row_at x Default d ≡ 0 → row_at (cond t (marked x) x) Default d ≡ cond t (one_at_0 d) 0
default_marked true x d h none = count_of one_at_0 d h ∙ small (eqb d 0)
  where
    small : (t : Bool) → limited (cond t 1 0) ≡ cond t 1 0
    small true = refl
    small false = refl
default_marked false x d h none = none

module _ (n : ℕ) (E : Members) (grants : List Grant) (above : ItemCounts) (s r : ℕ) (few : n ≤ 64) (known : AllByRecursion (λ g. g.account < n) grants) where
  -- what the rows count
  pub rows_found : length grants ≤ 512 → (x y : Starts) → FromGrants grants (lengths_in above.counts) r x → Marked n E x y → (rows : Rows) →
      ((m : Mark) → ArrivalsCounted n E (λ a. row_at (start_at y a) m) s (row_at rows m)) → RowsBy n E grants (lengths_in above.counts) s r rows
  unfolding unmarked_by
  rows_found room x y from marks rows counted = record {
    signed = λ sign d h.
        (counted (Signed sign)).answer d h
        ∙ ap limited
        (arrived_same n E (λ a. row_at (start_at y a) (Signed sign)) (λ a e. started grants L r a sign e) s d (λ a e la le. signed a la sign e (omega arith))
        ∙ walked_signed n E L s r sign d (read_past above) grants known);
    default = λ d h.
        (counted Default).answer d h
        ∙ ap limited
        (arrived_same n E (λ a. row_at (start_at y a) Default) (λ a e. cond (unmarked_by n E grants L r a) (one_at_0 e) 0) s d (λ a e la le. default a la e (omega arith))
        ∙ walked_default n E grants L s r d);
  }
    where
      L : Lengths
      L = lengths_in above.counts

      signed : (a : ℕ) → a < n → (sign : Sign) (e : ℕ) → e < 15 → row_at (start_at y a) (Signed sign) e ≡ started grants L r a sign e
      signed a la sign e h =
          let small = started_few above grants r a sign e in
          let is = from.signed a (omega arith) sign e h in
          ap (λ z. row_at z (Signed sign) e) (marks.start a la) ∙ signed_marked (gives_default n E x a) (start_at x a) sign e ∙ omega arith

      default : (a : ℕ) → a < n → (e : ℕ) → e < 15 → row_at (start_at y a) Default e ≡ cond (unmarked_by n E grants L r a) (one_at_0 e) 0
      default a la e h =
          ap (λ z. row_at z Default e) (marks.start a la)
          ∙ default_marked (gives_default n E x a) (start_at x a) e h (from.default a e (omega arith) h)
          ∙ ap (λ t. cond (groupless n E a && not t) (one_at_0 e) 0) (from.held a (omega arith))

  module _ (sign : Sign) (starts : List (Option ℕ)) (begin : NearestStarts grants (lengths_in above.counts) r sign starts) (x : Option ℕ)
      (near : Nearest E (distance_at starts) s x) where
    -- nothing arrives at a distance that is none of the nearest or beyond, or past distance 14
    pub none_nearer : (d : ℕ) → ((y : ℕ) → y ≤ d → IsSomeAnd x (λ z. z ≤ y) → ⊥) ⊎ (15 ≤ d) → of_grants n E grants (lengths_in above.counts) s r sign d ≡ 0
    none_nearer d away =
        sym (walked_signed n E L s r sign d (read_past above) grants known)
        ∙ arrived_by_account n E (λ a e. started grants L r a sign e) s 8 d
        ∙ sum_zero n (λ a. sum_below 8 (term a)) (λ a la. sum_zero 8 (term a) (λ k lk. none a k la lk (cases_eq (count n E a s k) 0)))
      where
        L : Lengths
        L = lengths_in above.counts

        term : ℕ → ℕ → ℕ
        term a k = count n E a s k * cond (leb k d) (started grants L r a sign (d - k)) 0

        -- what an account starts with at no distance before its first
        before : (a k : ℕ) → a < n → k < 8 → Chain E a k s → k ≤ d → d < 15 → ((y : ℕ) → y ≤ d → IsSomeAnd x (λ z. z ≤ y) → ⊥) →
            (w : Option ℕ) → distance_at starts a ≡ w → FirstIfAny (started grants L r a sign) w → started grants L r a sign (d - k) ≡ 0
        before a k la lk chain l low apart None e first = first (d - k)
        before a k la lk chain l low apart (Some w) e first =
            ⊎_elim (λ u. first.1 (d - k) u)
            (λ v. absurd (apart (w + k) (omega arith) (near.least a w k e (omega arith) chain (omega arith)))) (cases_lt (d - k) w)

        empty : (a k : ℕ) → a < n → k < 8 → Chain E a k s → k ≤ d → started grants L r a sign (d - k) ≡ 0
        empty a k la lk chain l =
            ⊎_elim
            (λ low. ⊎_elim (λ apart. before a k la lk chain l low apart (distance_at starts a) refl (begin.start a (omega arith))) (λ far. absurd (omega arith)) away)
            (λ far. started_past L (read_past above) grants r a sign (d - k) (omega arith)) (cases_lt d 15)

        nothing : (a k : ℕ) → a < n → k < 8 → Chain E a k s → (d < k) ⊎ (k ≤ d) → cond (leb k d) (started grants L r a sign (d - k)) 0 ≡ 0
        nothing a k la lk chain (inl l) = cond-false (leb k d) (started grants L r a sign (d - k)) 0 (lt-leb k d l)
        nothing a k la lk chain (inr l) = cond-true (leb k d) (started grants L r a sign (d - k)) 0 (le-leb k d l) ∙ empty a k la lk chain l

        none : (a k : ℕ) → a < n → k < 8 → (count n E a s k ≡ 0) ⊎ (count n E a s k ≡ 0 → ⊥) → term a k ≡ 0
        none a k la lk (inl e) = ap (λ z. z * cond (leb k d) (started grants L r a sign (d - k)) 0) e ∙ zero-mul _
        none a k la lk (inr ne) =
            let chain = counted_is_chain n E a s k (omega arith) in
            ap (λ z. count n E a s k * z) (nothing a k la lk chain (cases_lt d k)) ∙ mul-zero (count n E a s k)

    -- and at the nearest something does
    pub some_nearest : Within n E → s < n → (y : ℕ) → x ≡ Some y → 0 < of_grants n E grants (lengths_in above.counts) s r sign y
    some_nearest within end y is =
        let L : Lengths = lengths_in above.counts in
        let found = near.reached y is in
        let a = found.0 in
        let w = found.1 in
        let k = found.2 in
        let la : a < n = chain_top_known within end found.4 in
        let chains : 0 < count n E a s k = chain_is_counted n E within found.4 in
        let back : y - k ≡ w = omega (arith, found.6) in
        let term : ℕ → ℕ → ℕ = λ b j. count n E b s j * cond (leb j y) (started grants L r b sign (y - j)) 0 in
        let first = subst (FirstIfAny (started grants L r a sign)) found.5 (begin.start a (omega arith)) in
        let has : 0 < started grants L r a sign w = first.0 in
        let same : cond (leb k y) (started grants L r a sign (y - k)) 0 ≡ started grants L r a sign w =
        cond-true (leb k y) (started grants L r a sign (y - k)) 0 (le-leb k y (omega (arith, found.6))) ∙ ap (started grants L r a sign) back in
        let positive : 0 < count n E a s k * started grants L r a sign w = mul-pos chains has in
        let product : term a k ≡ count n E a s k * started grants L r a sign w = ap (λ z. count n E a s k * z) same in
        let inner = sum_has 8 (term a) k (omega (arith, found.3)) in
        let outer = sum_has n (λ b. sum_below 8 (term b)) a la in
        let all = sym (arrived_by_account n E (λ b e. started grants L r b sign e) s 8 y) ∙ walked_signed n E L s r sign y (read_past above) grants known in
        omega arith

    -- so it is the first distance, or none
    pub first_found : Within n E → s < n → FirstIfAny (of_grants n E grants (lengths_in above.counts) s r sign) x
    first_found within end = split x refl
      where
        split : (z : Option ℕ) → x ≡ z → FirstIfAny (of_grants n E grants (lengths_in above.counts) s r sign) z
        split None e = λ d. none_nearer d (inl (λ y l h. subst (λ z. IsSomeAnd z (λ u. u ≤ y)) e h))
        split (Some y) e = (
          some_nearest within end y e,
          λ d l. none_nearer d (inl (λ u b h. let m : y ≤ u = subst (λ z. IsSomeAnd z (λ v. v ≤ u)) e h in omega arith)),
        )
