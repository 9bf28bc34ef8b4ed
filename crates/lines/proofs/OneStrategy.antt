-- A strategy is known by its name, so a written name is read back as its strategy. Assumes nothing.
use Rattle.std.proofs.Common.{◌≡◌, ℕ, ◌<◌, false, List, [], ◌∷◌, length, get_or, Some, None, Ok, Option, sym, refl, ap, ◌∙◌, arith}
use mathlib.Core.Bool.{Bool-set}
use mathlib.Core.HLevel.{is_prop→PathP}
use native.Mathlib.Bridge.{le_prop}
use Rattle.std.specs.Option.{ok_or}
use Rattle.std.proofs.lemmas.Bool.{true≢false}
use Rattle.strategies.specs.Settings.{repeats, sign_number, default_number, middle_number, setting_number}
use Rattle.strategies.specs.Names.{number_of, name_of}
use Rattle.strategies.specs.declared.marks.Sign.{Sign}
use Rattle.strategies.specs.declared.marks.Sign.TheVariants.{Plus, Minus}
use Rattle.strategies.specs.declared.strategy.DefaultRule.{DefaultRule}
use Rattle.strategies.specs.declared.strategy.DefaultRule.TheVariants.{Dropped, Counts}
use Rattle.strategies.specs.declared.strategy.Locality.{Locality}
use Rattle.strategies.specs.declared.strategy.Locality.TheVariants.{Anywhere, Nearest, Farthest}
use Rattle.strategies.specs.declared.strategy.Majority.{Majority}
use Rattle.strategies.specs.declared.strategy.Majority.TheVariants.{Skipped, Before, After}
use Rattle.strategies.specs.declared.strategy.Strategy.{Strategy}
use Rattle.fields.specs.declared.faults.FieldFault.{FieldFault}
use Rattle.fields.specs.declared.faults.FieldCause.TheVariants as cause
use Rattle.fields.specs.Fields.{past_blanks}
use Rattle.fields.specs.Checks.{name_in}
use Rattle.fields.specs.Names.{strategy_named}
use Rattle.fields.specs.Spelling.{right_justified}
use Rattle.fields.proofs.Blanks.{no_ok, justified_past}
use Rattle.fields.proofs.NameFields.{found, named_has_it, name_behind}

-- equal parts make equal strategies
same_parts : (s t : Strategy) → s.default ≡ t.default → s.locality ≡ t.locality → s.majority ≡ t.majority → s.preferred ≡ t.preferred → s ≡ t
same_parts s t d l m p = λ i. record {
  default = d i;
  locality = l i;
  majority = m i;
  preferred = p i;
  alone = is_prop→PathP (λ j. repeats (l j) (m j) ≡ false) (λ j. Bool-set (repeats (l j) (m j)) false) s.alone t.alone i;
  below = is_prop→PathP (λ j. setting_number (d j) (l j) (m j) (p j) < 48) (λ j. le_prop) s.below t.below i;
}

sign_below : (s : Sign) → sign_number s < 2
sign_below Plus = omega arith
sign_below Minus = omega arith

default_below : (d : DefaultRule) → default_number d < 3
default_below Dropped = omega arith
default_below (Counts Plus) = omega arith
default_below (Counts Minus) = omega arith

middle_below : (l : Locality) (m : Majority) → middle_number l m < 8
middle_below Anywhere Skipped = omega arith
middle_below Anywhere Before = omega arith
middle_below Anywhere After = omega arith
middle_below Nearest Skipped = omega arith
middle_below Nearest Before = omega arith
middle_below Nearest After = omega arith
middle_below Farthest Skipped = omega arith
middle_below Farthest Before = omega arith
middle_below Farthest After = omega arith

-- the parts are read off their numbers
sign_back : (s : Sign) → get_or (Plus ∷ Minus ∷ []) (sign_number s) Plus ≡ s
sign_back Plus = refl
sign_back Minus = refl

default_back : (d : DefaultRule) → get_or (Dropped ∷ Counts Plus ∷ Counts Minus ∷ []) (default_number d) Dropped ≡ d
default_back Dropped = refl
default_back (Counts Plus) = refl
default_back (Counts Minus) = refl

abbrev localities : List Locality
localities = Anywhere ∷ Anywhere ∷ Nearest ∷ Nearest ∷ Nearest ∷ Farthest ∷ Farthest ∷ Farthest ∷ []

locality_back : (l : Locality) (m : Majority) → get_or localities (middle_number l m) Anywhere ≡ l
locality_back Anywhere Skipped = refl
locality_back Anywhere Before = refl
locality_back Anywhere After = refl
locality_back Nearest Skipped = refl
locality_back Nearest Before = refl
locality_back Nearest After = refl
locality_back Farthest Skipped = refl
locality_back Farthest Before = refl
locality_back Farthest After = refl

abbrev majorities : List Majority
majorities = Skipped ∷ Before ∷ Skipped ∷ Before ∷ After ∷ Skipped ∷ Before ∷ After ∷ []

majority_back : (l : Locality) (m : Majority) → repeats l m ≡ false → get_or majorities (middle_number l m) Skipped ≡ m
majority_back Anywhere Skipped h = refl
majority_back Anywhere Before h = refl
majority_back Anywhere After h = absurd (true≢false h)
majority_back Nearest Skipped h = refl
majority_back Nearest Before h = refl
majority_back Nearest After h = refl
majority_back Farthest Skipped h = refl
majority_back Farthest Before h = refl
majority_back Farthest After h = refl

-- two strategies with one number are one
same_number : (s t : Strategy) → number_of s ≡ number_of t → s ≡ t
same_number s t e =
    let ds = default_below s.default in
    let dt = default_below t.default in
    let ms = middle_below s.locality s.majority in
    let mt = middle_below t.locality t.majority in
    let ps = sign_below s.preferred in
    let pt = sign_below t.preferred in
    let d : default_number s.default ≡ default_number t.default = omega arith in
    let m : middle_number s.locality s.majority ≡ middle_number t.locality t.majority = omega arith in
    let p : sign_number s.preferred ≡ sign_number t.preferred = omega arith in
    same_parts s t
    (sym (default_back s.default) ∙ ap (λ n. get_or (Dropped ∷ Counts Plus ∷ Counts Minus ∷ []) n Dropped) d ∙ default_back t.default)
    (sym (locality_back s.locality s.majority) ∙ ap (λ n. get_or localities n Anywhere) m ∙ locality_back t.locality t.majority)
    (sym (majority_back s.locality s.majority s.alone) ∙ ap (λ n. get_or majorities n Skipped) m ∙ majority_back t.locality t.majority t.alone)
    (sym (sign_back s.preferred) ∙ ap (λ n. get_or (Plus ∷ Minus ∷ []) n Plus) p ∙ sign_back t.preferred)

-- a strategy is found under its own name
own_name : (s : Strategy) → strategy_named (name_of (number_of s)) ≡ Some s
own_name s = let got = found (number_of s) s.below in got.1 ∙ ap Some (same_number got.0 s got.2)

pub name_back : (s : Strategy) (width column : ℕ) → name_in (right_justified width (name_of (number_of s))) column ≡ Ok s
name_back s width column =
    ap (λ bs. ok_or (strategy_named bs) (record { cause = cause.Name (record {}); column = column })) (name_behind width (number_of s) s.below)
    ∙ ap (λ o. ok_or o (record { cause = cause.Name (record {}); column = column })) (own_name s)

found_some : (o : Option Strategy) (f : FieldFault) (s : Strategy) → ok_or o f ≡ Ok s → o ≡ Some s
found_some None f s e = absurd (no_ok e)
found_some (Some t) f s e = cc

pub name_only : (bs : List ℕ) (column : ℕ) (s : Strategy) → name_in bs column ≡ Ok s → bs ≡ right_justified (length bs) (name_of (number_of s))
name_only bs column s e =
    justified_past bs
    ∙ ap (right_justified (length bs)) (sym (named_has_it (past_blanks bs) s (found_some (strategy_named (past_blanks bs)) _ s e)))
