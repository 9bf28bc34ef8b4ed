-- The memberships up to a group and a member: none, one more, a whole group, all. Assumes nothing.
use Rattle.std.proofs.Common.{◌≡◌, ℕ, ◌+◌, ◌<◌, Bool, true, false, cond, ◌&&◌, ◌||◌, eqb, ltb, refl, ◌∙◌, ap₂, arith}
use Rattle.std.proofs.lemmas.Bool.{and_parts}
use Rattle.std.proofs.lemmas.Bool.Decides.{nat_tests}
use Rattle.chains.specs.Chains.{Members, PartOf, Within, add, no_members}
use Rattle.saved.specs.Saved.{before}

-- is the pair before g and m?
abbrev earlier : ℕ → ℕ → ℕ → ℕ → Bool
earlier g m p c = ltb p g || (eqb p g && ltb c m)

none : (e : Bool) (p c : ℕ) → false ≡ (e && earlier 0 0 p c)
none e p c = grind (arith, nat_tests)

every : (e : Bool) (n p c : ℕ) → (e ≡ true → p < n) → (e && earlier n 0 p c) ≡ e
every e n p c h = grind (arith, nat_tests)

line : (e : Bool) (n g p c : ℕ) → (e ≡ true → c < n) → (e && earlier g n p c) ≡ (e && earlier (g + 1) 0 p c)
line e n g p c h = grind (arith, nat_tests)

itself : (g m : ℕ) → earlier g m g m ≡ false
itself g m = grind (arith, nat_tests)

joined : (e : Bool) (g m p c : ℕ) → (p ≡ g → c ≡ m → e ≡ true) → ((e && earlier g m p c) || (eqb p g && eqb c m)) ≡ (e && earlier g (m + 1) p c)
joined e g m p c h = grind (arith, nat_tests)

left_out : (e : Bool) (g m p c : ℕ) → (p ≡ g → c ≡ m → e ≡ false) → (e && earlier g m p c) ≡ (e && earlier g (m + 1) p c)
left_out e g m p c h = grind (arith, nat_tests)

pub before_none : (E : Members) → no_members ≡ before E 0 0
unfolding before
before_none E = λ i p c. none (E p c) p c i

pub before_all : (n : ℕ) (E : Members) → Within n E → before E n 0 ≡ E
unfolding before
before_all n E within = λ i p c. every (E p c) n p c (λ e. (within p c e).0) i

pub before_line : (n : ℕ) (E : Members) → Within n E → (g : ℕ) → before E g n ≡ before E (g + 1) 0
unfolding before
before_line n E within g = λ i p c. line (E p c) n g p c (λ e. (within p c e).1) i

pub before_part : (E : Members) (g m : ℕ) → PartOf (before E g m) E
unfolding before
before_part E g m p c e = (and_parts (E p c) (earlier g m p c) e).0

pub before_not : (E : Members) (g m : ℕ) → before E g m g m ≡ false
unfolding before
before_not E g m = grind (arith, itself)

pub before_more : (E : Members) (g m : ℕ) → cond (E g m) (add (before E g m) g m) (before E g m) ≡ before E g (m + 1)
unfolding before
before_more E g m = by (E g m) refl
  where
    by : (w : Bool) → E g m ≡ w → cond w (add (before E g m) g m) (before E g m) ≡ before E g (m + 1)
    by true stands = λ i p c. joined (E p c) g m p c (λ e f. ap₂ E e f ∙ stands) i
    by false none = λ i p c. left_out (E p c) g m p c (λ e f. ap₂ E e f ∙ none) i
