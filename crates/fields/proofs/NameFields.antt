-- A field that names a strategy: found among all of them, and written in one way. Assumes nothing.
use Rattle.std.proofs.Common.{◌≡◌, ℕ, zero, suc, ◌-◌, ◌<◌, ◌≤◌, Bool, true, false, ◌&&◌, eqb, ltb, leb, List, [], ◌∷◌, length, get_or, Some, None, Ok, Err, Option, Result, sym, refl, ap, ◌∙◌, subst, arith}
use Rattle.std.specs.Str.{bytes_eq}
use Rattle.std.specs.Option.{ok_or}
use Rattle.std.specs.Result.{MatchResult, IsErrAnd}
use Rattle.fields.specs.declared.faults.FieldCause.TheVariants.{Name}
use Rattle.fields.specs.Checks.{fault_of, name_in}
use Rattle.std.proofs.lemmas.Bool.{cond-true, cond-false, and_parts, eqb-true, leb-true, ltb-true, true≢false}
use Rattle.std.proofs.lemmas.Bool.Decides.{Decides-below_and}
use Rattle.std.proofs.lemmas.Slice.Eq.{bytes_eq-Decides}
use Rattle.strategies.specs.Names.{name_of, number_of}
use Rattle.strategies.specs.declared.names.NotAName.{NotAName}
use Rattle.strategies.specs.declared.strategy.Strategy.{Strategy}
use Rattle.fields.specs.declared.faults.FieldFault.{FieldFault}
use Rattle.fields.specs.Fields.{past_blanks}
use Rattle.fields.specs.Names.{every_strategy, first_named, strategy_named}
use Rattle.fields.specs.Spelling.{right_justified, Named}
use Rattle.fields.proofs.Blanks.{past_front, justified_past}

-- what is found has the name
first_has_it : (ss : List Strategy) (bs : List ℕ) (s : Strategy) → first_named ss bs ≡ Some s → name_of (number_of s) ≡ bs
first_has_it [] bs s e = let z : ◌≡◌ {A = ℕ} 0 1 = cc in absurd (omega arith)
first_has_it (t ∷ ss) bs s e = by (bytes_eq (name_of (number_of t)) bs) refl (first_has_it ss bs s)
  where
    by : (b : Bool) → bytes_eq (name_of (number_of t)) bs ≡ b → (first_named ss bs ≡ Some s → name_of (number_of s) ≡ bs) → name_of (number_of s) ≡ bs
    by true p later =
        let is : Some t ≡ Some s = sym (cond-true (bytes_eq (name_of (number_of t)) bs) (Some t) (first_named ss bs) p) ∙ e in
        let same : t ≡ s = cc in
        ap (λ x. name_of (number_of x)) (sym same) ∙ (bytes_eq-Decides (name_of (number_of t)) bs).0 p
    by false p later = later (sym (cond-false (bytes_eq (name_of (number_of t)) bs) (Some t) (first_named ss bs) p) ∙ e)

pub named_has_it : (bs : List ℕ) (s : Strategy) → strategy_named bs ≡ Some s → name_of (number_of s) ≡ bs
unfolding strategy_named
named_has_it bs s e = first_has_it every_strategy bs s e

-- was a strategy with the number found?
abbrev numbered : ℕ → Option Strategy → Bool
numbered k None = false
numbered k (Some s) = eqb (number_of s) k

-- each of the forty-eight names leads to the strategy with its number: one test, computed
abbrev all_found : ℕ → Bool
all_found zero = true
all_found (suc n) = numbered n (strategy_named (name_of n)) && all_found n

found_true : (k : ℕ) → k < 48 → numbered k (strategy_named (name_of k)) ≡ true
unfolding strategy_named every_strategy
found_true k h =
    (Decides-below_and (λ k. numbered k (strategy_named (name_of k))) (λ k. numbered k (strategy_named (name_of k)) ≡ true) all_found
    (λ k. ((λ e. e), (λ e. e))) refl (λ _. refl) 48).0 refl k h

pub found : (k : ℕ) → k < 48 → (s : Strategy) × (strategy_named (name_of k) ≡ Some s) × (number_of s ≡ k)
found k h = by (strategy_named (name_of k)) refl (found_true k h)
  where
    by : (o : Option Strategy) → strategy_named (name_of k) ≡ o → numbered k o ≡ true → (s : Strategy) × (strategy_named (name_of k) ≡ Some s) × (number_of s ≡ k)
    by None e t = absurd (true≢false (sym t))
    by (Some s) e t = (s, e, eqb-true (number_of s) k t)

-- the strategy of a name is the one that has it
pub some_named : (bs : List ℕ) (s : Strategy) → name_of (number_of s) ≡ bs → ((t : Strategy) → name_of (number_of t) ≡ bs → ◌≡◌ {A = Result Strategy NotAName} (Ok s) (Ok t)) → strategy_named bs ≡ Some s
some_named bs s e one = by (strategy_named bs) refl
  where
    by : (o : Option Strategy) → strategy_named bs ≡ o → o ≡ Some s
    by None p =
        let got = found (number_of s) s.below in
        let clash : None ≡ Some got.0 = sym p ∙ ap strategy_named (sym e) ∙ got.1 in
        let z : ◌≡◌ {A = ℕ} 0 1 = cc in
        absurd (omega arith)
    by (Some t) p = let q : ◌≡◌ {A = Result Strategy NotAName} (Ok s) (Ok t) = one t (named_has_it bs t p) in cc

-- bytes that are no name name no strategy
pub none_named : (bs : List ℕ) → ((k : ℕ) → k < 48 → name_of k ≡ bs → ⊥) → strategy_named bs ≡ None
none_named bs h = by (strategy_named bs) refl
  where
    by : (o : Option Strategy) → strategy_named bs ≡ o → o ≡ None
    by None p = refl
    by (Some t) p = absurd (h (number_of t) t.below (named_has_it bs t p))

-- no name begins with a blank, and none is longer than six bytes
abbrev plain : ℕ → Bool
plain k = ltb 32 (get_or (name_of k) 0 0) && leb (length (name_of k)) 6

abbrev all_plain : ℕ → Bool
all_plain zero = true
all_plain (suc n) = plain n && all_plain n

plain_name : (k : ℕ) → k < 48 → plain k ≡ true
plain_name k h =
    (Decides-below_and plain (λ k. plain k ≡ true) all_plain (λ k. ((λ e. e), (λ e. e))) refl (λ _. refl) 48).0 refl k h

name_filled : (k : ℕ) → k < 48 → 32 < get_or (name_of k) 0 0
name_filled k h = ltb-true 32 (get_or (name_of k) 0 0) (and_parts _ _ (plain_name k h)).0

pub name_short : (k : ℕ) → k < 48 → length (name_of k) ≤ 6
name_short k h = leb-true (length (name_of k)) 6 (and_parts _ _ (plain_name k h)).1

pub name_behind : (width k : ℕ) → k < 48 → past_blanks (right_justified width (name_of k)) ≡ name_of k
name_behind width k h = past_front (width - length (name_of k)) (name_of k) (name_filled k h)

-- what the two ways of the field's reader owe
named_field : (bs : List ℕ) (s : Strategy) (f : FieldFault) → name_of (number_of s) ≡ past_blanks bs → ((t : Strategy) → name_of (number_of t) ≡ past_blanks bs → ◌≡◌ {A = Result Strategy NotAName} (Ok s) (Ok t)) → (Ok s ≡ ok_or (strategy_named (past_blanks bs)) f) × Named bs (Ok s)
named_field bs s f e one = (
  sym (ap (λ o. ok_or o f) (some_named (past_blanks bs) s e one)),
  justified_past bs ∙ ap (right_justified (length bs)) (sym e),
)

nameless_field : (bs : List ℕ) (f : FieldFault) → ((k : ℕ) → k < 48 → name_of k ≡ past_blanks bs → ⊥) → (Err f ≡ ok_or (strategy_named (past_blanks bs)) f) × Named bs (Err f)
nameless_field bs f h = (
  sym (ap (λ o. ok_or o f) (none_named (past_blanks bs) h)),
  λ k l is. h k l (sym (ap past_blanks is ∙ name_behind (length bs) k l)),
)

-- what the reader of a name owes, where `of` says what a refused name is given as
pub read_name : (bs text : List ℕ) (column : ℕ) (r : Result Strategy NotAName) (q : Result Strategy FieldFault) (of : NotAName → FieldFault → Type 0) → text ≡ past_blanks bs
    → MatchResult r (λ s. name_of (number_of s) ≡ text) (λ _. (k : ℕ) → k < 48 → name_of k ≡ text → ⊥)
    → ((s : Strategy) → name_of (number_of s) ≡ text → r ≡ Ok s)
    → MatchResult r (λ s. q ≡ Ok s) (λ e. IsErrAnd q (λ f. of e f))
    → ((e : NotAName) (f : FieldFault) → of e f → f ≡ fault_of (Name (record {})) column)
    → (q ≡ name_in bs column) × Named bs q
read_name bs text column (Ok s) q of is name one got same =
    subst (λ q. (q ≡ name_in bs column) × Named bs q) (sym got)
    (named_field bs s (fault_of (Name (record {})) column) (name ∙ is) (λ t e. one t (e ∙ sym is)))
read_name bs text column (Err e) (Ok t) of is none one got same = absurd got
read_name bs text column (Err e) (Err f) of is none one got same =
    subst (λ f. (Err f ≡ name_in bs column) × Named bs (Err f)) (sym (same e f got))
    (nameless_field bs (fault_of (Name (record {})) column) (λ k l h. none k l (h ∙ sym is)))
