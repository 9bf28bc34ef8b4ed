-- Taking in one grant raises the starting marks by what the grant gives. Assumes nothing.
use Rattle.std.proofs.Common.{◌≡◌, ℕ, ◌+◌, ◌<◌, ◌≤◌, Bool, true, false, cond, ◌&&◌, ◌||◌, eqb, ltb, ◌⊎◌, List, length, get_or, sym, refl, ap, ◌∙◌, subst, inl, inr, arith}
use Rattle.std.proofs.lemmas.List.FromFn.{fill_by_all}
use Rattle.std.proofs.lemmas.List.{get_or-set_same, get_or-set_other, get_or_past}
use Rattle.std.proofs.lemmas.Bool.{cases_eq, cases_lt, cond-false, eq-eqb, ne_eqb, ltb-false, or_right, and_left, and_right}
use Rattle.lists.specs.Lists.{below, some}
use Rattle.chains.proofs.Some.{some_none}
use Rattle.plans.specs.Counts.{row_read}
use Rattle.strategies.specs.Resolve.{same_sign}
use Rattle.strategies.specs.Rows.{row_at}
use Rattle.strategies.specs.declared.marks.Sign.{Sign}
use Rattle.strategies.specs.declared.marks.Sign.TheVariants.{Plus, Minus}
use Rattle.strategies.specs.declared.marks.Mark.{Mark}
use Rattle.strategies.specs.declared.marks.Mark.TheVariants.{Signed, Default}
use Rattle.strategies.specs.declared.rows.Rows.{Rows}
use Rattle.walk.specs.Counts.{count_at, limited, no_rows}
use Rattle.walk.specs.RowLaws.{count_of}
use Rattle.model.specs.Counted.{Lengths, above_by, labels}
use Rattle.model.specs.declared.grant.Grant.{Grant}
use Rattle.walked.specs.Starts.{lengths_in, given_by}
use Rattle.walked.specs.Taking.{raised_rows, start_at, holds_at, taken, OneMore}
use Rattle.walked.specs.declared.starts.Starts.{Starts}

row_small : (x : Rows) (m : Mark) (d : ℕ) → d < 15 → row_at x m d ≤ 1000000000000
row_small x (Signed Plus) d h = x.plus.small d h
row_small x (Signed Minus) d h = x.minus.small d h
row_small x Default d h = x.default.small d h

raised_at : (sign t : Sign) (chains : List ℕ) (x : Rows) (d : ℕ) → d < 15 →
    row_at (raised_rows sign chains x) (Signed t) d ≡ limited (row_at x (Signed t) d + cond (same_sign t sign) (get_or chains d 0) 0)
raised_at Plus Plus chains x d h = count_of (λ e. count_at x.plus e + get_or chains e 0) d h
raised_at Plus Minus chains x d h = omega (arith, x.minus.small d h)
raised_at Minus Plus chains x d h = omega (arith, x.plus.small d h)
raised_at Minus Minus chains x d h = count_of (λ e. count_at x.minus e + get_or chains e 0) d h

raised_default : (sign : Sign) (chains : List ℕ) (x : Rows) (d : ℕ) → row_at (raised_rows sign chains x) Default d ≡ row_at x Default d
raised_default Plus chains x d = refl
raised_default Minus chains x d = refl

-- a row of eight numbers, tested place by place
pub any_row : (chains : List ℕ) → length chains ≡ 8 → some (ltb 0) chains ≡ some (λ k. ltb 0 (get_or chains k 0)) (below 8)
any_row chains long = ap (some (ltb 0)) (fill_by_all (λ k. get_or chains k 0) chains 8 0 long (λ k l. refl))

pub row_none : (chains : List ℕ) → length chains ≡ 8 → some (ltb 0) chains ≡ false → (k : ℕ) → get_or chains k 0 ≡ 0
row_none chains long e k = split (cases_lt k 8)
  where
    split : (k < 8) ⊎ (8 ≤ k) → get_or chains k 0 ≡ 0
    split (inl l) =
        let low = ltb-false 0 (get_or chains k 0) (some_none (λ j. ltb 0 (get_or chains j 0)) 8 (sym (any_row chains long) ∙ e) k l) in
        omega arith
    split (inr l) = get_or_past chains k 0 (omega arith)

module _ (L : Lengths) (g : Grant) (a : ℕ) where
  -- a grant to another account, or of another right, gives nothing to this one
  pub given_other : (r : ℕ) (sign : Sign) (d : ℕ) → (a ≡ g.account → ⊥) → given_by L r a sign d g ≡ 0
  given_other r sign d ne =
      ap (λ b. cond (b && (eqb g.right r && same_sign sign g.sign)) (L g.item d) 0) (ne_eqb g.account a (λ q. ne (sym q)))

  pub given_wrong : (r : ℕ) (sign : Sign) (d : ℕ) → (g.right ≡ r → ⊥) → given_by L r a sign d g ≡ 0
  given_wrong r sign d ne =
      cond-false (eqb g.account a && (eqb g.right r && same_sign sign g.sign)) (L g.item d) 0
      (and_right (eqb g.account a) (eqb g.right r && same_sign sign g.sign) (and_left (eqb g.right r) (same_sign sign g.sign) (ne_eqb g.right r ne)))

  pub given_none : (r : ℕ) (sign : Sign) (d : ℕ) → L g.item d ≡ 0 → given_by L r a sign d g ≡ 0
  given_none r sign d e = under (eqb g.account a && (eqb g.right r && same_sign sign g.sign)) (L g.item d) e
    where
      under : (t : Bool) (x : ℕ) → x ≡ 0 → cond t x 0 ≡ 0
      under true x q = q
      under false x q = refl

pub given_here : (L : Lengths) (g : Grant) (sign : Sign) (d : ℕ) → given_by L g.right g.account sign d g ≡ cond (same_sign sign g.sign) (L g.item d) 0
given_here L g sign d =
    ap (λ b. cond (b && (eqb g.right g.right && same_sign sign g.sign)) (L g.item d) 0) (eq-eqb g.account g.account refl)
    ∙ ap (λ b. cond (b && same_sign sign g.sign) (L g.item d) 0) (eq-eqb g.right g.right refl)

pub or_false : (t : Bool) → (t || false) ≡ t
or_false true = refl
or_false false = refl

module _ (t : List (List ℕ)) (g : Grant) (long : length (row_read t g.item) ≡ 8) (x : Starts) where
  -- taken in
  pub took : length x.rows ≡ 64 → length x.held ≡ 64 → g.account < 64 → some (ltb 0) (row_read t g.item) ≡ true → OneMore (lengths_in t) g x (taken x g (row_read t g.item))
  unfolding above_by
  took rows holds known any = record {
    signed = λ a l sign d h. signed a sign d h (cases_eq acc a);
    default = λ a d l. default a d (cases_eq acc a);
    held = λ a l. held a (cases_eq acc a);
  }
    where
      acc : ℕ
      acc = g.account

      L : Lengths
      L = lengths_in t

      chains : List ℕ
      chains = row_read t g.item

      new : Rows
      new = raised_rows g.sign chains (start_at x acc)

      y : Starts
      y = taken x g chains

      at_new : start_at y acc ≡ new
      at_new = get_or-set_same x.rows acc new no_rows (omega arith)

      signed : (a : ℕ) (sign : Sign) (d : ℕ) → d < 15 → (acc ≡ a) ⊎ (acc ≡ a → ⊥) →
          row_at (start_at y a) (Signed sign) d ≡ limited (row_at (start_at x a) (Signed sign) d + given_by L g.right a sign d g)
      signed a sign d h (inl e) =
          subst (λ b. row_at (start_at y b) (Signed sign) d ≡ limited (row_at (start_at x b) (Signed sign) d + given_by L g.right b sign d g)) e
          (ap (λ z. row_at z (Signed sign) d) at_new ∙ raised_at g.sign sign chains (start_at x acc) d h
          ∙ ap (λ z. limited (row_at (start_at x acc) (Signed sign) d + z)) (sym (given_here L g sign d)))
      signed a sign d h (inr ne) =
          let none = given_other L g a g.right sign d (λ q. ne (sym q)) in
          let small = row_small (start_at x a) (Signed sign) d h in
          ap (λ z. row_at z (Signed sign) d) (get_or-set_other x.rows acc a new no_rows (λ q. ne (sym q))) ∙ omega arith

      default : (a d : ℕ) → (acc ≡ a) ⊎ (acc ≡ a → ⊥) → row_at (start_at y a) Default d ≡ row_at (start_at x a) Default d
      default a d (inl e) =
          subst (λ b. row_at (start_at y b) Default d ≡ row_at (start_at x b) Default d) e
          (ap (λ z. row_at z Default d) at_new ∙ raised_default g.sign chains (start_at x acc) d)
      default a d (inr ne) = ap (λ z. row_at z Default d) (get_or-set_other x.rows acc a new no_rows (λ q. ne (sym q)))

      yes : labels L g.right acc g ≡ true
      yes =
          ap (λ b. b && (eqb g.right g.right && above_by L g.item)) (eq-eqb acc acc refl)
          ∙ ap (λ b. b && above_by L g.item) (eq-eqb g.right g.right refl)
          ∙ sym (any_row chains long) ∙ any

      held : (a : ℕ) → (acc ≡ a) ⊎ (acc ≡ a → ⊥) → holds_at y a ≡ (holds_at x a || labels L g.right a g)
      held a (inl e) =
          subst (λ b. holds_at y b ≡ (holds_at x b || labels L g.right b g)) e
          (get_or-set_same x.held acc true false (omega arith) ∙ sym (or_right (holds_at x acc) (labels L g.right acc g) yes))
      held a (inr ne) =
          get_or-set_other x.held acc a true false (λ q. ne (sym q))
          ∙ sym (ap (λ b. holds_at x a || (b && (eqb g.right g.right && above_by L g.item))) (ne_eqb acc a ne) ∙ or_false (holds_at x a))

  -- passed over, since no chain leads down from its item
  pub passed_over : some (ltb 0) (row_read t g.item) ≡ false → OneMore (lengths_in t) g x x
  unfolding above_by
  passed_over none = record {
    signed = λ a l sign d h.
        let zero = given_none (lengths_in t) g a g.right sign d (row_none (row_read t g.item) long none d) in
        let small = row_small (start_at x a) (Signed sign) d h in
        omega arith;
    default = λ a d l. refl;
    held = λ a l.
        sym (ap (λ b. holds_at x a || b)
        (and_right (eqb g.account a) (eqb g.right g.right && above_by (lengths_in t) g.item)
        (and_right (eqb g.right g.right) (above_by (lengths_in t) g.item) (sym (any_row (row_read t g.item) long) ∙ none)))
        ∙ or_false (holds_at x a));
  }
