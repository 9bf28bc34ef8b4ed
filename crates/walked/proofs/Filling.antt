-- The starting marks of the grants so far, as the pass over them goes on. Assumes nothing.
use Rattle.std.proofs.Common.{◌≡◌, ℕ, ◌+◌, ◌<◌, ◌&&◌, ◌||◌, eqb, List, [], ◌∷◌, length, get_or, take, sum_by, sym, ap, ◌∙◌, arith}
use Rattle.std.proofs.lemmas.List.{take_more}
use Rattle.std.proofs.lemmas.List.Sums.{sum_by_more}
use Rattle.std.proofs.lemmas.Bool.{ne_eqb, and_left, and_right}
use Rattle.lists.specs.Lists.{some}
use Rattle.chains.proofs.Some.{some_join}
use Rattle.strategies.specs.Rows.{row_at}
use Rattle.strategies.specs.declared.marks.Sign.{Sign}
use Rattle.strategies.specs.declared.marks.Sign.TheVariants.{Plus, Minus}
use Rattle.strategies.specs.declared.marks.Mark.{Mark}
use Rattle.strategies.specs.declared.marks.Mark.TheVariants.{Signed, Default}
use Rattle.walk.specs.Counts.{no_rows}
use Rattle.walk.specs.RowLaws.{count_of}
use Rattle.model.specs.Counted.{Lengths, above_by, labels, labelled_by}
use Rattle.model.specs.declared.grant.Grant.{Grant}
use Rattle.walked.specs.Starts.{given_by, started}
use Rattle.walked.specs.Taking.{NothingYet, OneMore, FromGrants}
use Rattle.walked.specs.declared.starts.Starts.{Starts}
use Rattle.walked.proofs.Taking.{given_wrong, or_false}

pub from_none : (grants : List Grant) (L : Lengths) (r : ℕ) (x : Starts) → NothingYet x → FromGrants (take 0 grants) L r x
unfolding started labelled_by
from_none grants L r x none = record {
  signed = λ a l sign d h. ap (λ z. row_at z (Signed sign) d) (none.start a l) ∙ empty (Signed sign) d h;
  default = λ a d l h. ap (λ z. row_at z Default d) (none.start a l) ∙ empty Default d h;
  held = λ a l. none.held a l;
}
  where
    empty : (m : Mark) (d : ℕ) → d < 15 → row_at no_rows m d ≡ 0
    empty (Signed Plus) d h = count_of (λ e. 0) d h
    empty (Signed Minus) d h = count_of (λ e. 0) d h
    empty Default d h = count_of (λ e. 0) d h

module _ (grants : List Grant) (L : Lengths) (r i : ℕ) (g other : Grant) (within : i < length grants) (here : g ≡ get_or grants i other) where
  pub started_more : (a : ℕ) (sign : Sign) (d : ℕ) → started (take (i + 1) grants) L r a sign d ≡ started (take i grants) L r a sign d + given_by L r a sign d g
  unfolding started
  started_more a sign d =
      sum_by_more (given_by L r a sign d) grants i other within ∙ ap (λ z. sum_by (given_by L r a sign d) (take i grants) + given_by L r a sign d z) (sym here)

  labelled_more : (a : ℕ) → labelled_by (take (i + 1) grants) L r a ≡ (labelled_by (take i grants) L r a || labels L r a g)
  unfolding labelled_by
  labelled_more a =
      ap (some (labels L r a)) (take_more grants i other within)
      ∙ some_join (labels L r a) (take i grants) (get_or grants i other ∷ [])
      ∙ ap (λ z. some (labels L r a) (take i grants) || z) (or_false (labels L r a (get_or grants i other)) ∙ ap (labels L r a) (sym here))

  -- a grant of the right
  pub from_more : (x y : Starts) → g.right ≡ r → FromGrants (take i grants) L r x → OneMore L g x y → FromGrants (take (i + 1) grants) L r y
  from_more x y right before one = record {
    signed = λ a l sign d h.
        let more = started_more a sign d in
        let was = before.signed a l sign d h in
        let now = one.signed a l sign d h in
        let same = ap (λ q. given_by L q a sign d g) right in
        omega arith;
    default = λ a d l h. one.default a d l ∙ before.default a d l h;
    held = λ a l.
        one.held a l ∙ ap (λ z. z || labels L g.right a g) (before.held a l)
        ∙ ap (λ q. labelled_by (take i grants) L r a || labels L q a g) right ∙ sym (labelled_more a);
  }

  -- a grant of another right
  pub from_skip : (x : Starts) → (g.right ≡ r → ⊥) → FromGrants (take i grants) L r x → FromGrants (take (i + 1) grants) L r x
  from_skip x ne before = record {
    signed = λ a l sign d h.
        let more = started_more a sign d in
        let none = given_wrong L g a r sign d ne in
        let was = before.signed a l sign d h in
        omega arith;
    default = before.default;
    held = λ a l.
        before.held a l
        ∙ sym (labelled_more a
        ∙ ap (λ z. labelled_by (take i grants) L r a || z)
        (and_right (eqb g.account a) (eqb g.right r && above_by L g.item) (and_left (eqb g.right r) (above_by L g.item) (ne_eqb g.right r ne)))
        ∙ or_false (labelled_by (take i grants) L r a));
  }
