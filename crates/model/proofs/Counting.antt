-- Counting a listing: the rows of each mark at each distance as sums. Assumes nothing.
use Rattle.std.proofs.Common.{◌≡◌, ℕ, ◌+◌, ◌<◌, ◌≤◌, Bool, cond, not, ◌&&◌, eqb, ltb, ◌⊎◌, List, [], ◌∷◌, length, sym, refl, ap, ◌∙◌, inl, inr, arith}
use Rattle.std.proofs.lemmas.Bool.{cases_lt, lt-ltb, le-ltb, cond-true, cond-false, eq-eqb, ne_eqb}
use Rattle.lists.specs.Lists.{any_at_all, below, join_all, keep, some, sum_below}
use Rattle.lists.proofs.Sums.{sum_same, sum_zero, sum_one}
use Rattle.lists.proofs.Kept.{sum_by_same, sum_by_zero, sum_by_below, sum_by_kept}
use Rattle.chains.specs.Chains.{count}
use Rattle.chains.specs.Tests.{groupless}
use Rattle.plans.specs.Items.{Items, item_chains}
use Rattle.strategies.specs.Rows.{counted}
use Rattle.strategies.specs.declared.marks.Sign.{Sign}
use Rattle.strategies.specs.declared.marks.Mark.TheVariants.{Signed, Default}
use Rattle.model.specs.Model.{Model}
use Rattle.model.specs.Question.{over_chains, grant_arrivals, at_or_above, labelled, unmarked, default_marks, listing}
use Rattle.model.specs.Counted.{listed_lengths, of_grant, of_grants, above_by, labels, labelled_by, unmarked_by, of_accounts}
use Rattle.model.proofs.CountedRows.{counted_append, counted_joined, counted_chains, counted_grant, no_default}

-- one summand of eight, if there is one
one_of_eight : (f : ℕ → ℕ) (d : ℕ) → sum_below 8 (λ k. cond (eqb (k + 0) d) (f k) 0) ≡ cond (ltb d 8) (f d) 0
one_of_eight f d = split (cases_lt d 8)
  where
    other : (k : ℕ) → (k ≡ d → ⊥) → cond (eqb (k + 0) d) (f k) 0 ≡ 0
    other k ne = cond-false (eqb (k + 0) d) (f k) 0 (ne_eqb (k + 0) d (λ e. ne (omega arith)))

    split : (d < 8) ⊎ (8 ≤ d) → sum_below 8 (λ k. cond (eqb (k + 0) d) (f k) 0) ≡ cond (ltb d 8) (f d) 0
    split (inl l) =
        sum_one 8 (λ k. cond (eqb (k + 0) d) (f k) 0) d l (λ k b ne. other k ne)
        ∙ cond-true (eqb (d + 0) d) (f d) 0 (eq-eqb (d + 0) d (omega arith))
        ∙ sym (cond-true (ltb d 8) (f d) 0 (lt-ltb d 8 l))
    split (inr l) =
        sum_zero 8 (λ k. cond (eqb (k + 0) d) (f k) 0) (λ k b. other k (λ e. omega arith))
        ∙ sym (cond-false (ltb d 8) (f d) 0 (le-ltb d 8 l))

some_same : {A : Type 0} (f g : A → Bool) → ((x : A) → f x ≡ g x) → (xs : List A) → some f xs ≡ some g xs
some_same f g h [] = refl
some_same f g h (x ∷ xs) = let here = h x in let rest = some_same f g h xs in grind arith

any_counted : {A : Type 0} (xs : List A) → any_at_all xs ≡ ltb 0 (length xs)
any_counted [] = refl
any_counted (x ∷ xs) = grind arith

pub above_listed : (I : Items) (b o : ℕ) → at_or_above I b o ≡ above_by (listed_lengths I o) b
unfolding at_or_above above_by
above_listed I b o = some_same (λ k. any_at_all (item_chains I b o k)) (λ k. ltb 0 (length (item_chains I b o k))) (λ k. any_counted (item_chains I b o k)) (below 8)

pub unmarked_listed : (n : ℕ) (M : Model) (I : Items) (o r a : ℕ) → unmarked n M I o r a ≡ unmarked_by n M.members M.grants (listed_lengths I o) r a
unfolding labelled labelled_by unmarked_by
unmarked_listed n M I o r a =
    ap (λ t. groupless n M.members a && not t)
    (some_same (λ g. eqb g.account a && (eqb g.right r && at_or_above I g.item o)) (labels (listed_lengths I o) r a)
    (λ g. ap (λ t. eqb g.account a && (eqb g.right r && t)) (above_listed I g.item o)) M.grants)

module _ (n : ℕ) (M : Model) (I : Items) (s o r : ℕ) (d : ℕ) where
  counted_marks : counted Default (default_marks n M I s o r) d ≡ of_accounts n M.members M.grants (listed_lengths I o) s r d
  unfolding default_marks of_accounts
  counted_marks =
      counted_joined Default d (λ a. over_chains n M.members a s Default 0) (keep (unmarked n M I o r) (below n))
      ∙ sum_by_same (λ a. counted Default (over_chains n M.members a s Default 0) d) (λ a. cond (ltb d 8) (count n M.members a s d) 0)
      (λ a. counted_chains Default d n M.members a s Default 0 ∙ one_of_eight (count n M.members a s) d)
      (keep (unmarked n M I o r) (below n))
      ∙ sum_by_kept (λ a. cond (ltb d 8) (count n M.members a s d) 0) (unmarked n M I o r) (below n)
      ∙ sum_by_below (λ a. cond (unmarked n M I o r a) (cond (ltb d 8) (count n M.members a s d) 0) 0) n
      ∙ sum_same n (λ a. cond (unmarked n M I o r a) (cond (ltb d 8) (count n M.members a s d) 0) 0)
      (λ a. cond (unmarked_by n M.members M.grants (listed_lengths I o) r a) (cond (ltb d 8) (count n M.members a s d) 0) 0)
      (λ a l. ap (λ t. cond t (cond (ltb d 8) (count n M.members a s d) 0) 0) (unmarked_listed n M I o r a))

  no_signed : (sign : Sign) → counted (Signed sign) (default_marks n M I s o r) d ≡ 0
  unfolding default_marks
  no_signed sign =
      counted_joined (Signed sign) d (λ a. over_chains n M.members a s Default 0) (keep (unmarked n M I o r) (below n))
      ∙ sum_by_zero (λ a. counted (Signed sign) (over_chains n M.members a s Default 0) d)
      (λ a. counted_chains (Signed sign) d n M.members a s Default 0 ∙ sum_zero 8 (λ k. 0) (λ k l. refl))
      (keep (unmarked n M I o r) (below n))

  pub counted_signed : (sign : Sign) → counted (Signed sign) (listing n M I s o r) d ≡ of_grants n M.members M.grants (listed_lengths I o) s r sign d
  unfolding listing of_grants
  counted_signed sign =
      let apart = counted_append (Signed sign) d (join_all (grant_arrivals n M.members I s o r) M.grants) (default_marks n M I s o r) in
      let grants =
      counted_joined (Signed sign) d (grant_arrivals n M.members I s o r) M.grants
      ∙ sum_by_same (λ g. counted (Signed sign) (grant_arrivals n M.members I s o r g) d) (of_grant n M.members (listed_lengths I o) s r sign d)
      (λ g. counted_grant n M.members I s o r d g sign) M.grants in
      let none = no_signed sign in
      omega arith

  pub counted_default : counted Default (listing n M I s o r) d ≡ of_accounts n M.members M.grants (listed_lengths I o) s r d
  unfolding listing
  counted_default =
      let apart = counted_append Default d (join_all (grant_arrivals n M.members I s o r) M.grants) (default_marks n M I s o r) in
      let none =
      counted_joined Default d (grant_arrivals n M.members I s o r) M.grants
      ∙ sum_by_zero (λ g. counted Default (grant_arrivals n M.members I s o r g) d) (no_default n M.members I s o r d) M.grants in
      let marks = counted_marks in
      omega arith
