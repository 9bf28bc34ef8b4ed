-- What the grants so far have given, while they are gone through. Assumes nothing.
use Rattle.std.proofs.Common.{◌≡◌, ℕ, ◌+◌, ◌<◌, Bool, true, false, ◌&&◌, ◌||◌, eqb, ◌⊎◌, List, [], ◌∷◌, length, get_or, take, set, replicate, sym, refl, ap, ◌∙◌, subst, inl, inr, arith, length-set, get_or-set_other, get_or-set_same}
use Rattle.std.proofs.lemmas.List.{get_or-replicate, take_more}
use Rattle.std.proofs.lemmas.List.Sums.{sum_by_more}
use Rattle.std.proofs.lemmas.Bool.{and_from, and_left, cases_eq, eq-eqb, ne_eqb}
use Rattle.lists.specs.Lists.{some}
use Rattle.chains.proofs.Some.{some_join}
use Rattle.chains.specs.Chains.{Members}
use Rattle.strategies.specs.declared.marks.Sign.{Sign}
use Rattle.strategies.specs.declared.marks.Sign.TheVariants.{Plus, Minus}
use Rattle.model.specs.Counted.{Lengths, above_by, labelled_by, labels, of_grant, of_grants}
use Rattle.model.specs.declared.grant.Grant.{Grant}

-- the arrivals of each sign, and who holds a grant, for a list of grants
pub record ArrivedBy (n : ℕ) (E : Members) (L : Lengths) (s r : ℕ) (gs : List Grant) (plus minus : List ℕ) (held : List Bool) : Type 0 where
  pub plus_long : length plus ≡ 15
  pub minus_long : length minus ≡ 15
  pub held_long : length held ≡ 64
  pub plus_is : (d : ℕ) → d < 15 → get_or plus d 0 ≡ of_grants n E gs L s r Plus d
  pub minus_is : (d : ℕ) → d < 15 → get_or minus d 0 ≡ of_grants n E gs L s r Minus d
  pub held_is : (a : ℕ) → a < 64 → get_or held a false ≡ labelled_by gs L r a

abbrev pub no_grant : Grant
no_grant = record { account = 0; item = 0; right = 0; sign = Plus }

-- nothing was given before the first
pub arrived_none : (n : ℕ) (E : Members) (L : Lengths) (s r : ℕ) → ArrivedBy n E L s r [] (replicate 15 0) (replicate 15 0) (replicate 64 false)
unfolding of_grants labelled_by
arrived_none n E L s r = record {
  plus_long = refl;
  minus_long = refl;
  held_long = refl;
  plus_is = λ d l. get_or-replicate 15 d 0 0 l;
  minus_is = λ d l. get_or-replicate 15 d 0 0 l;
  held_is = λ a l. get_or-replicate 64 a false false l;
}

some_more : (f : Grant → Bool) (gs : List Grant) (i : ℕ) → i < length gs → some f (take (i + 1) gs) ≡ (some f (take i gs) || f (get_or gs i no_grant))
some_more f gs i l = ap (some f) (take_more gs i no_grant l) ∙ some_join f (take i gs) (get_or gs i no_grant ∷ []) ∙ ap (λ t. some f (take i gs) || t) (or_false (f (get_or gs i no_grant)))
  where
    or_false : (t : Bool) → (t || false) ≡ t
    or_false true = refl
    or_false false = refl

module _ (n : ℕ) (E : Members) (L : Lengths) (s r : ℕ) (gs : List Grant) (i : ℕ) (l : i < length gs) (plus minus : List ℕ) (held : List Bool)
    (inv : ArrivedBy n E L s r (take i gs) plus minus held) where
  abbrev g : Grant
  g = get_or gs i no_grant

  of_more : (sign : Sign) (d : ℕ) → of_grants n E (take (i + 1) gs) L s r sign d ≡ of_grants n E (take i gs) L s r sign d + of_grant n E L s r sign d g
  unfolding of_grants
  of_more sign d = sum_by_more (of_grant n E L s r sign d) gs i no_grant l

  labelled_more : (a : ℕ) → labelled_by (take (i + 1) gs) L r a ≡ (labelled_by (take i gs) L r a || labels L r a g)
  unfolding labelled_by
  labelled_more a = some_more (labels L r a) gs i l

  -- a grant that gives nothing
  pub arrived_skip : ((sign : Sign) (d : ℕ) → of_grant n E L s r sign d g ≡ 0) → ((a : ℕ) → labels L r a g ≡ false) →
      ArrivedBy n E L s r (take (i + 1) gs) plus minus held
  arrived_skip none free = record {
    plus_long = inv.plus_long;
    minus_long = inv.minus_long;
    held_long = inv.held_long;
    plus_is = λ d u. let old = inv.plus_is d u in let more = of_more Plus d in let zero = none Plus d in omega arith;
    minus_is = λ d u. let old = inv.minus_is d u in let more = of_more Minus d in let zero = none Minus d in omega arith;
    held_is = λ a u. inv.held_is a u ∙ sym (labelled_more a ∙ ap (λ t. labelled_by (take i gs) L r a || t) (free a) ∙ or_no (labelled_by (take i gs) L r a));
  }
    where
      or_no : (t : Bool) → (t || false) ≡ t
      or_no true = refl
      or_no false = refl

  -- a grant of the right on an item from which a chain leads down
  pub arrived_more : (plus' minus' : List ℕ) → length plus' ≡ 15 → length minus' ≡ 15 →
      ((d : ℕ) → d < 15 → get_or plus' d 0 ≡ get_or plus d 0 + of_grant n E L s r Plus d g) →
      ((d : ℕ) → d < 15 → get_or minus' d 0 ≡ get_or minus d 0 + of_grant n E L s r Minus d g) →
      g.right ≡ r → above_by L g.item ≡ true → g.account < 64 →
      ArrivedBy n E L s r (take (i + 1) gs) plus' minus' (set held g.account true)
  arrived_more plus' minus' pl ml p m right above low = record {
    plus_long = pl;
    minus_long = ml;
    held_long = length-set held g.account true ∙ inv.held_long;
    plus_is = λ d u. let old = inv.plus_is d u in let more = of_more Plus d in let new = p d u in omega arith;
    minus_is = λ d u. let old = inv.minus_is d u in let more = of_more Minus d in let new = m d u in omega arith;
    held_is = λ a u. split a u (cases_eq a g.account) ∙ sym (labelled_more a);
  }
    where
      or_true : (t : Bool) → true ≡ (t || true)
      or_true true = refl
      or_true false = refl

      or_no : (t : Bool) → t ≡ (t || false)
      or_no true = refl
      or_no false = refl

      split : (a : ℕ) → a < 64 → (a ≡ g.account) ⊎ (a ≡ g.account → ⊥) → get_or (set held g.account true) a false ≡ (labelled_by (take i gs) L r a || labels L r a g)
      split a u (inl e) =
          let yes : labels L r a g ≡ true =
          and_from (eqb g.account a) (eqb g.right r && above_by L g.item) (eq-eqb g.account a (sym e))
          (and_from (eqb g.right r) (above_by L g.item) (eq-eqb g.right r right) above) in
          ap (λ x. get_or (set held g.account true) x false) e
          ∙ get_or-set_same held g.account true false (omega (arith, inv.held_long))
          ∙ or_true (labelled_by (take i gs) L r a) ∙ ap (λ t. labelled_by (take i gs) L r a || t) (sym yes)
      split a u (inr ne) =
          let no : labels L r a g ≡ false = and_left (eqb g.account a) (eqb g.right r && above_by L g.item) (ne_eqb g.account a (λ e. ne (sym e))) in
          get_or-set_other held g.account a true false ne ∙ inv.held_is a u
          ∙ or_no (labelled_by (take i gs) L r a) ∙ ap (λ t. labelled_by (take i gs) L r a || t) (sym no)

-- the same of equal lists
pub arrived_at : (n : ℕ) (E : Members) (L : Lengths) (s r : ℕ) (gs : List Grant) (p p' m m' : List ℕ) (h h' : List Bool) → p' ≡ p → m' ≡ m → h' ≡ h →
    ArrivedBy n E L s r gs p m h → ArrivedBy n E L s r gs p' m' h'
arrived_at n E L s r gs p p' m m' h h' ep em eh x =
    subst (λ (y : List ℕ). ArrivedBy n E L s r gs y m' h') (sym ep)
    (subst (λ (y : List ℕ). ArrivedBy n E L s r gs p y h') (sym em) (subst (λ (y : List Bool). ArrivedBy n E L s r gs p m y) (sym eh) x))
