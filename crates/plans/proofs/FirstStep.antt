-- Item chains counted by their first step, from the top. Assumes nothing.
use Rattle.std.proofs.Common.{◌≡◌, ℕ, zero, suc, ◌+◌, ◌*◌, ◌<◌, ◌≤◌, cond, eqb, List, [], ◌∷◌, length, drop, sum_by, sym, refl, ap, ◌∙◌, ap₂, one-mul, mul-zero, zero-mul, arith}
use Rattle.std.specs.List.{AllByRecursion}
use Rattle.std.proofs.ByRecursion.{All-weaker, All-drop}
use Rattle.std.proofs.lemmas.List.Sums.{sum_by-cons}
use Rattle.std.proofs.lemmas.Bool.{eq-eqb, ne_eqb, cond-false}
use Rattle.lists.specs.Lists.{sum_below}
use Rattle.lists.proofs.Sums.{sum_same, sum_zero, sum_one}
use Rattle.lists.proofs.Kept.{sum_by_same}
use Rattle.plans.specs.Items.{Items, Lawful, item_chains}
use Rattle.plans.specs.Above.{times, ahead}
use Rattle.plans.proofs.ItemChains.{chains_step, chains_start}
use Rattle.plans.proofs.ListSums.{sum_by_same_on, sum_by_times, sum_by_swap}

module _ (M : Items) (lawful : Lawful M) where
  -- a chain of one container or more: its first step, then the rest
  pub first_step : (k b o n : ℕ) → o < n →
      length (item_chains M b o (suc k)) ≡ sum_below n (λ i. length (item_chains M i o k) * times b (M.containers i))
  unfolding times
  first_step zero b o n l =
      chains_step M b o 0
      ∙ sum_by_same (λ c. length (item_chains M b c 0)) (λ c. cond (eqb b c) 1 0) (λ c. chains_start M b c) (M.containers o)
      ∙ sym (one-mul (times b (M.containers o)))
      ∙ ap (λ z. z * times b (M.containers o)) (sym (chains_start M o o ∙ ap (λ t. cond t 1 0) (eq-eqb o o refl)))
      ∙ sym (sum_one n (λ i. length (item_chains M i o 0) * times b (M.containers i)) o l
      (λ i k ne. ap (λ z. z * times b (M.containers i)) (chains_start M i o ∙ cond-false (eqb i o) 1 0 (ne_eqb i o ne)) ∙ zero-mul (times b (M.containers i))))
  first_step (suc k) b o n l =
      chains_step M b o (suc k)
      ∙ sum_by_same_on (λ c. length (item_chains M b c (suc k))) (λ c. sum_below n (λ i. length (item_chains M i c k) * times b (M.containers i)))
      (M.containers o)
      (All-weaker (λ c. c < o) (λ c. length (item_chains M b c (suc k)) ≡ sum_below n (λ i. length (item_chains M i c k) * times b (M.containers i)))
      (λ c u. first_step k b c n (omega arith)) (M.containers o) (lawful.lower o))
      ∙ sum_by_swap n (λ c i. length (item_chains M i c k) * times b (M.containers i)) (M.containers o)
      ∙ sum_same n (λ i. sum_by (λ c. length (item_chains M i c k) * times b (M.containers i)) (M.containers o))
      (λ i. length (item_chains M i o (suc k)) * times b (M.containers i))
      (λ i u.
      sum_by_times (λ c. length (item_chains M i c k)) (times b (M.containers i)) (M.containers o)
      ∙ ap (λ z. z * times b (M.containers i)) (sym (chains_step M i o k)))

pub times_none : (b : ℕ) (cs : List ℕ) → AllByRecursion (λ c. c < b) cs → times b cs ≡ 0
unfolding times
times_none b [] a = refl
times_none b (c ∷ cs) a =
    let low = a.0 in
    let first : cond (eqb b c) 1 0 ≡ 0 = cond-false (eqb b c) 1 0 (ne_eqb b c (λ e. omega arith)) in
    let rest : sum_by (λ c. cond (eqb b c) 1 0) cs ≡ 0 = times_none b cs a.1 in
    let sum = sum_by-cons (λ c. cond (eqb b c) 1 0) c cs in
    sum ∙ ap₂ (λ x y. x + y) first rest

-- no item contains itself or one of a lower number
pub none_ahead : (M : Items) → Lawful M → (o x b k : ℕ) → x ≤ suc b → ahead M o x b k ≡ 0
unfolding ahead
none_ahead M lawful o x b k l =
    sum_zero x (λ i. length (item_chains M i o k) * times b (M.containers i))
    (λ i u.
    ap (λ z. length (item_chains M i o k) * z)
    (times_none b (M.containers i) (All-weaker (λ c. c < i) (λ c. c < b) (λ c v. omega arith) (M.containers i) (lawful.lower i)))
    ∙ mul-zero (length (item_chains M i o k)))

-- nor among its own containers, or any of the last of them
pub none_left : (M : Items) → Lawful M → (x n : ℕ) → times x (drop n (M.containers x)) ≡ 0
none_left M lawful x n = times_none x (drop n (M.containers x)) (All-drop (λ c. c < x) n (M.containers x) (lawful.lower x))
