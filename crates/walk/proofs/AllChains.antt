-- Where no chain is longer than 7, longer chains bring nothing. Assumes nothing.
use Rattle.std.proofs.Common.{◌≡◌, ℕ, zero, suc, ◌<◌, ◌≤◌, ◌⊎◌, List, [], ◌∷◌, ◌++◌, map, sym, refl, ap, ◌∙◌, inl, inr, arith}
use Rattle.std.proofs.lemmas.Bool.{cases_lt}
use Rattle.std.proofs.lemmas.List.{append-nil, append_assoc, nil_from_length}
use Rattle.lists.specs.Lists.{below, join_all}
use Rattle.chains.specs.Chains.{Members, Short, chains, count}
use Rattle.chains.proofs.Listing.{count_none}
use Rattle.walk.specs.Weights.{times, arriving, arrivals}

join_append : {A B : Type 0} (f : A → List B) (xs ys : List A) → join_all f (xs ++ ys) ≡ join_all f xs ++ join_all f ys
join_append f [] ys = refl
join_append f (x ∷ xs) ys = ap (λ zs. f x ++ zs) (join_append f xs ys) ∙ sym (append_assoc (f x) (join_all f xs) (join_all f ys))

-- one number more, which gives nothing
join_more : {B : Type 0} (f : ℕ → List B) (n : ℕ) → f n ≡ [] → join_all f (below (suc n)) ≡ join_all f (below n)
join_more f n e = join_append f (below n) (n ∷ []) ∙ ap (λ ys. join_all f (below n) ++ (ys ++ [])) e ∙ append-nil (join_all f (below n))

join_none : {B : Type 0} (f : ℕ → List B) (n : ℕ) → ((m : ℕ) → f m ≡ []) → join_all f (below n) ≡ []
join_none f zero h = refl
join_none f (suc n) h = join_more f n (h n) ∙ join_none f n h

module _ (n : ℕ) (E : Members) (short : Short E) where
  -- no chain of 8 memberships or more is counted
  pub count_long : (a s k : ℕ) → 8 ≤ k → count n E a s k ≡ 0
  count_long a s k long = count_none n E a s k (λ c. let l = short a s k c in omega arith)

  no_chain : (a s k : ℕ) → 8 ≤ k → chains n E a s k ≡ []
  unfolding count
  no_chain a s k long = nil_from_length (chains n E a s k) (count_long a s k long)

  module _ {X : Type 0} (next : X → X) (start : ℕ → X) (s : ℕ) where
    none_arrives : (k : ℕ) → 8 ≤ k → arriving next n E start s k ≡ []
    none_arrives k h =
        join_none (λ a. map (λ path. times next k (start a)) (chains n E a s k)) n
        (λ a. ap (map (λ path. times next k (start a))) (no_chain a s k h))

    -- longer chains bring nothing
    pub no_more : (many : ℕ) → 8 ≤ many → arrivals next n E start s many ≡ arrivals next n E start s 8
    unfolding arrivals
    no_more zero h = absurd (omega arith)
    no_more (suc many) h = go (cases_lt many 8) (λ l. no_more many l)
      where
        go : (many < 8) ⊎ (8 ≤ many) → (8 ≤ many → join_all (arriving next n E start s) (below many) ≡ join_all (arriving next n E start s) (below 8)) → join_all (arriving next n E start s) (below (suc many)) ≡ join_all (arriving next n E start s) (below 8)
        go (inl l) earlier = let e : suc many ≡ 8 = omega arith in ap (λ k. join_all (arriving next n E start s) (below k)) e
        go (inr l) earlier = join_more (arriving next n E start s) many (none_arrives many l) ∙ earlier l
