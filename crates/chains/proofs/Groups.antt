-- How many groups an account is a member of, and what a change of a membership does to that. Assumes nothing.
use Rattle.std.proofs.Common.{◌≡◌, ℕ, zero, suc, ◌+◌, ◌<◌, ◌≤◌, Bool, true, false, not, ◌&&◌, ◌||◌, eqb, ◌⊎◌, [], ◌∷◌, length, sym, refl, ap, ◌∙◌, inl, inr, arith}
use Rattle.std.proofs.lemmas.Bool.{cases_Bool, eq-eqb, ne_eqb}
use Rattle.lists.specs.Lists.{below, keep, some, sum_below}
use Rattle.lists.proofs.Kept.{kept_append, kept_cons, one}
use Rattle.lists.proofs.Sums.{sum_add, sum_bound, sum_has, sum_one, sum_same, sum_zero}
use Rattle.chains.specs.Chains.{Members, add, is_pair, no_members, strike}
use Rattle.chains.specs.Tests.{groupless, groups_of}
use Rattle.chains.proofs.Sets.{add_strike, pair_ends, same_equal, strike_gone}
use Rattle.chains.proofs.Some.{some_found, some_none}

-- how many of the numbers below n pass a test, as a sum
kept_below : (f : ℕ → Bool) (n : ℕ) → length (keep f (below n)) ≡ sum_below n (λ g. one (f g))
kept_below f zero = refl
kept_below f (suc n) =
    let before = kept_below f n in
    let both = kept_append f (below n) (n ∷ []) in
    let last = kept_cons f n [] in
    omega arith

one_few : (b : Bool) → one b ≤ 1
one_few true = omega arith
one_few false = omega arith

one_either : (x y : Bool) → (y ≡ true → x ≡ false) → one (x || y) ≡ one x + one y
one_either true true h = ap (λ b. one b + 1) (sym (h refl))
one_either true false h = refl
one_either false true h = refl
one_either false false h = refl

module _ (n : ℕ) (E : Members) (a : ℕ) where
  groups_sum : groups_of n E a ≡ sum_below n (λ g. one (E g a))
  unfolding groups_of
  groups_sum = kept_below (λ g. E g a) n

  pub groups_few : groups_of n E a ≤ n
  groups_few =
      let sum = groups_sum in
      let bound = sum_bound n (λ g. one (E g a)) 1 (λ g l. one_few (E g a)) in
      omega arith

  -- the account is a member of none exactly if it is counted as a member of none
  pub groupless_by_count : groupless n E a ≡ eqb (groups_of n E a) 0
  unfolding groupless
  groupless_by_count = pick (cases_Bool (some (λ g. E g a) (below n)))
    where
      pick : (some (λ g. E g a) (below n) ≡ true) ⊎ (some (λ g. E g a) (below n) ≡ false) → not (some (λ g. E g a) (below n)) ≡ eqb (groups_of n E a) 0
      pick (inl e) =
          let found = some_found (λ g. E g a) n e in
          let here : one (E found.0 a) ≡ 1 = ap one found.2 in
          let part = sum_has n (λ g. one (E g a)) found.0 found.1 in
          let sum = groups_sum in
          ap not e ∙ sym (ne_eqb (groups_of n E a) 0 (λ q. omega arith))
      pick (inr e) =
          ap not e
          ∙ sym (eq-eqb (groups_of n E a) 0 (groups_sum ∙ sum_zero n (λ g. one (E g a)) (λ g l. ap one (some_none (λ g. E g a) n e g l))))

pub groups_no_members : (n a : ℕ) → groups_of n no_members a ≡ 0
groups_no_members n a = groups_sum n no_members a ∙ sum_zero n (λ g. one (no_members g a)) (λ g l. refl)

module _ (n : ℕ) (E : Members) (p c : ℕ) (group : p < n) where
  -- the pair is one membership of the group p, and of no other
  pair_once : (a : ℕ) → sum_below n (λ g. one (is_pair p c g a)) ≡ one (eqb a c)
  pair_once a =
      sum_one n (λ g. one (is_pair p c g a)) p group (λ g l d. ap (λ (t : Bool). one (t && eqb a c)) (ne_eqb g p d))
      ∙ ap (λ (t : Bool). one (t && eqb a c)) (eq-eqb p p refl)

  -- a new membership counts once, for its member
  pub groups_added : E p c ≡ false → (a : ℕ) → groups_of n (add E p c) a ≡ groups_of n E a + one (eqb a c)
  groups_added new a =
      let after = groups_sum n (add E p c) a in
      let before = groups_sum n E a in
      let apart = sum_same n (λ g. one (add E p c g a)) (λ g. one (E g a) + one (is_pair p c g a))
      (λ g l. one_either (E g a) (is_pair p c g a) (λ e. fresh g (pair_ends p c g a e))) in
      let both = sum_add n (λ g. one (E g a)) (λ g. one (is_pair p c g a)) in
      let once = pair_once a in
      omega arith
    where
      fresh : (g : ℕ) → (g ≡ p) × (a ≡ c) → E g a ≡ false
      fresh g at = ap (λ (x : ℕ). E x a) at.0 ∙ ap (λ (x : ℕ). E p x) at.1 ∙ new

-- an ended membership counted once, for its member
pub groups_struck : (n : ℕ) (E : Members) (p c : ℕ) → p < n → E p c ≡ true → (a : ℕ) → groups_of n E a ≡ groups_of n (strike E p c) a + one (eqb a c)
groups_struck n E p c group stands a =
    ap (λ (F : Members). groups_of n F a) (sym (same_equal (add_strike E p c stands)))
    ∙ groups_added n (strike E p c) p c group (strike_gone E p c) a
