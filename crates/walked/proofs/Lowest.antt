-- The first distance of what accounts have, as grants are added. Assumes nothing.
use Rattle.std.proofs.Common.{◌≡◌, ℕ, ◌+◌, ◌<◌, ◌≤◌, min, true, false, cond, ◌&&◌, eqb, ◌⊎◌, List, length, get_or, take, set, replicate, Option, Some, None, sym, refl, ap, ◌∙◌, subst, inl, inr, true≢false, arith}
use Rattle.std.proofs.lemmas.List.{get_or-replicate, get_or-set_same, get_or-set_other, length-replicate}
use Rattle.std.proofs.lemmas.Bool.{cases_eq, cases_lt, cond-false, and_parts, and_right, eqb-true}
use Rattle.plans.specs.Counts.{row_read}
use Rattle.strategies.specs.Resolve.{same_sign}
use Rattle.strategies.specs.declared.marks.Sign.{Sign}
use Rattle.strategies.specs.declared.marks.Sign.TheVariants.{Plus, Minus}
use Rattle.walk.specs.Least.{lesser}
use Rattle.model.specs.Counted.{Lengths}
use Rattle.model.specs.declared.grant.Grant.{Grant}
use Rattle.walked.specs.Starts.{lengths_in, given_by, started}
use Rattle.walked.specs.Distances.{FirstIfAny, distance_at, Lowered, NearestStarts}
use Rattle.walked.proofs.Taking.{given_other, given_here}
use Rattle.walked.proofs.Filling.{started_more}

same_self : (s : Sign) → same_sign s s ≡ true
same_self Plus = refl
same_self Minus = refl

same_found : (s t : Sign) → same_sign s t ≡ true → t ≡ s
same_found Plus Plus e = refl
same_found Plus Minus e = absurd (true≢false (sym e))
same_found Minus Plus e = absurd (true≢false (sym e))
same_found Minus Minus e = refl

first_same : (f h : ℕ → ℕ) (x : Option ℕ) → ((d : ℕ) → f d ≡ h d) → FirstIfAny f x → FirstIfAny h x
first_same f h None same first = λ d. sym (same d) ∙ first d
first_same f h (Some x) same first = (let e = same x in let p = first.0 in omega arith, λ d l. sym (same d) ∙ first.1 d l)

-- of two together, the first distance is the lesser
first_both : (f h : ℕ → ℕ) (x y : Option ℕ) → FirstIfAny f x → FirstIfAny h y → FirstIfAny (λ d. f d + h d) (lesser x y)
first_both f h None None one two = λ d. let p = one d in let q = two d in omega arith
first_both f h None (Some y) one two = (let p = one y in let q = two.0 in omega arith, λ d l. let p = one d in let q = two.1 d l in omega arith)
first_both f h (Some x) None one two = (let p = one.0 in let q = two x in omega arith, λ d l. let p = one.1 d l in let q = two d in omega arith)
first_both f h (Some x) (Some y) one two = (split (cases_lt x y), λ d l. let p : f d ≡ 0 = one.1 d (omega arith) in let q : h d ≡ 0 = two.1 d (omega arith) in omega arith)
  where
    split : (x < y) ⊎ (y ≤ x) → 0 < f (min x y) + h (min x y)
    split (inl less) =
        let is : min x y ≡ x = omega arith in
        let same : f (min x y) ≡ f x = ap f is in
        let p = one.0 in
        omega arith
    split (inr less) =
        let is : min x y ≡ y = omega arith in
        let same : h (min x y) ≡ h y = ap h is in
        let p = two.0 in
        omega arith

-- the distance of the grant's account lowered
pub lowered : (t : List (List ℕ)) (g : Grant) (x : List (Option ℕ)) (near : Option ℕ) → length x ≡ 64 → g.account < 64 →
    FirstIfAny (λ k. get_or (row_read t g.item) k 0) near → Lowered (lengths_in t) g x (set x g.account (lesser (get_or x g.account None) near))
lowered t g x near full known first = record { start = λ a l f before. start a f before (cases_eq acc a) }
  where
    acc : ℕ
    acc = g.account

    L : Lengths
    L = lengths_in t

    new : Option ℕ
    new = lesser (get_or x acc None) near

    at_new : distance_at (set x acc new) acc ≡ lesser (distance_at x acc) near
    at_new = get_or-set_same x acc new None (omega arith)

    given : (d : ℕ) → L g.item d ≡ given_by L g.right acc g.sign d g
    given d = sym (given_here L g g.sign d ∙ ap (λ b. cond b (L g.item d) 0) (same_self g.sign))

    here : (f : ℕ → ℕ) → FirstIfAny f (distance_at x acc) → FirstIfAny (λ d. f d + given_by L g.right acc g.sign d g) (distance_at (set x acc new) acc)
    here f before =
        subst (FirstIfAny (λ d. f d + given_by L g.right acc g.sign d g)) (sym at_new)
        (first_both f (λ d. given_by L g.right acc g.sign d g) (distance_at x acc) near before
        (first_same (L g.item) (λ d. given_by L g.right acc g.sign d g) near given first))

    start : (a : ℕ) (f : ℕ → ℕ) → FirstIfAny f (distance_at x a) → (acc ≡ a) ⊎ (acc ≡ a → ⊥) →
        FirstIfAny (λ d. f d + given_by L g.right a g.sign d g) (distance_at (set x acc new) a)
    start a f before (inl e) =
        subst (λ b. FirstIfAny f (distance_at x b) → FirstIfAny (λ d. f d + given_by L g.right b g.sign d g) (distance_at (set x acc new) b)) e (here f) before
    start a f before (inr ne) =
        subst (FirstIfAny (λ d. f d + given_by L g.right a g.sign d g)) (sym (get_or-set_other x acc a new None (λ q. ne (sym q))))
        (first_same f (λ d. f d + given_by L g.right a g.sign d g) (distance_at x a)
        (λ d. let zero = given_other L g a g.right g.sign d (λ q. ne (sym q)) in omega arith) before)

-- no account has a distance
pub record NoDistances (starts : List (Option ℕ)) : Type 0 where
  pub full : length starts ≡ 64
  pub start : (a : ℕ) → a < 64 → distance_at starts a ≡ None

pub lowest_none : (grants : List Grant) (L : Lengths) (r : ℕ) (sign : Sign) (starts : List (Option ℕ)) → NoDistances starts → NearestStarts (take 0 grants) L r sign starts
unfolding started
lowest_none grants L r sign starts empty = record {
  start = λ a l. subst (FirstIfAny (started (take 0 grants) L r a sign)) (sym (empty.start a l)) (λ d. refl);
}

pub lowest_at_first : (grants : List Grant) (L : Lengths) (r : ℕ) (sign : Sign) → NearestStarts (take 0 grants) L r sign (replicate 64 None)
lowest_at_first grants L r sign =
    lowest_none grants L r sign (replicate 64 None) (record { full = length-replicate {A = Option ℕ} 64 None; start = λ a l. get_or-replicate 64 a None None l })

module _ (grants : List Grant) (L : Lengths) (r i : ℕ) (sign : Sign) (g other : Grant) (within : i < length grants) (here : g ≡ get_or grants i other) where
  -- a grant of the right and the sign
  pub lowest_more : (x y : List (Option ℕ)) → (eqb g.right r && same_sign sign g.sign) ≡ true → NearestStarts (take i grants) L r sign x → Lowered L g x y →
      NearestStarts (take (i + 1) grants) L r sign y
  lowest_more x y asked before one =
      let parts = and_parts (eqb g.right r) (same_sign sign g.sign) asked in
      let right = eqb-true g.right r parts.0 in
      let signs = same_found sign g.sign parts.1 in
      record {
        start = λ a l.
            first_same (λ d. started (take i grants) L r a sign d + given_by L g.right a g.sign d g) (started (take (i + 1) grants) L r a sign) (distance_at y a)
            (λ d.
            ap (λ q. started (take i grants) L r a sign d + given_by L q a g.sign d g) right
            ∙ ap (λ q. started (take i grants) L r a sign d + given_by L r a q d g) signs
            ∙ sym (started_more grants L r i g other within here a sign d))
            (one.start a l (started (take i grants) L r a sign) (before.start a l));
      }

  -- a grant of another right or sign
  pub lowest_skip : (x : List (Option ℕ)) → (eqb g.right r && same_sign sign g.sign) ≡ false → NearestStarts (take i grants) L r sign x →
      NearestStarts (take (i + 1) grants) L r sign x
  lowest_skip x asked before = record {
    start = λ a l.
        first_same (started (take i grants) L r a sign) (started (take (i + 1) grants) L r a sign) (distance_at x a)
        (λ d.
        let more = started_more grants L r i g other within here a sign d in
        let zero = cond-false (eqb g.account a && (eqb g.right r && same_sign sign g.sign)) (L g.item d) 0
        (and_right (eqb g.account a) (eqb g.right r && same_sign sign g.sign) asked) in
        omega arith)
        (before.start a l);
  }
