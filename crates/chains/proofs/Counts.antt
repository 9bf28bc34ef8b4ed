-- The count of chains follows the first step. Assumes nothing.
use Rattle.std.proofs.Common.{◌≡◌, ℕ, zero, suc, ◌+◌, Bool, true, false, cond, List, [], ◌∷◌, ◌++◌, length, refl, arith, length-append}
use lib.ListN.{length-map}
use Rattle.lists.specs.Lists.{sum_below, below, keep, join_all}
use Rattle.chains.specs.Chains.{chains, count}
use Rattle.chains.specs.Laws.{Recurrence}

-- one more element at the end of what is kept and joined
joined_push : {A B : Type 0} (f : A → List B) (test : A → Bool) (xs : List A) (y : A) →
    length (join_all f (keep test (xs ++ (y ∷ [])))) ≡ length (join_all f (keep test xs)) + cond (test y) (length (f y)) 0
joined_push f test [] y = last (test y)
  where
    last : (t : Bool) → length (join_all f (cond t (y ∷ []) [])) ≡ 0 + cond t (length (f y)) 0
    last true = simp length-append (omega arith)
    last false = refl
joined_push f test (x ∷ xs) y = step (test x) (joined_push f test xs y)
  where
    step : (t : Bool) →
        length (join_all f (keep test (xs ++ (y ∷ [])))) ≡ length (join_all f (keep test xs)) + cond (test y) (length (f y)) 0 →
        length (join_all f (cond t (x ∷ keep test (xs ++ (y ∷ []))) (keep test (xs ++ (y ∷ [])))))
        ≡ length (join_all f (cond t (x ∷ keep test xs) (keep test xs))) + cond (test y) (length (f y)) 0
    step true before = simp length-append (omega arith)
    step false before = before

joined_below : {B : Type 0} (f : ℕ → List B) (test : ℕ → Bool) (n : ℕ) →
    length (join_all f (keep test (below n))) ≡ sum_below n (λ m. cond (test m) (length (f m)) 0)
joined_below f test zero = refl
joined_below f test (suc n) =
    let before = joined_below f test n in
    let push = joined_push f test (below n) n in
    omega arith

pub recurrence : Recurrence
unfolding chains count
recurrence n E a s k = simp (joined_below, length-map)
