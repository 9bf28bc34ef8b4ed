-- The strategies, and which of them has a name. Assumes nothing.
use Rattle.std.specs.Prelude.{◌≡◌, ℕ, Bool, true, false, cond, List, [], ◌∷◌, Some, None, Option, nat_lt, refl}
use Rattle.std.proofs.Common.{ltb-true}
use Rattle.lists.specs.Lists.{join_all}
use Rattle.std.specs.Str.{bytes_eq}
use Rattle.strategies.specs.Settings.{repeats, setting_number}
use Rattle.strategies.specs.Names.{name_of, number_of}
use Rattle.strategies.specs.declared.marks.Sign.{Sign}
use Rattle.strategies.specs.declared.marks.Sign.TheVariants.{Plus, Minus}
use Rattle.strategies.specs.declared.strategy.DefaultRule.{DefaultRule}
use Rattle.strategies.specs.declared.strategy.DefaultRule.TheVariants.{Dropped, Counts}
use Rattle.strategies.specs.declared.strategy.Locality.{Locality}
use Rattle.strategies.specs.declared.strategy.Locality.TheVariants.{Anywhere, Nearest, Farthest}
use Rattle.strategies.specs.declared.strategy.Majority.{Majority}
use Rattle.strategies.specs.declared.strategy.Majority.TheVariants.{Skipped, Before, After}
use Rattle.strategies.specs.declared.strategy.Strategy.{Strategy}

-- a setting that passes both tests of a strategy
abbrev pub tested : (d : DefaultRule) (l : Locality) (m : Majority) (p : Sign) (again below : Bool) → repeats l m ≡ again → nat_lt (setting_number d l m p) 48 ≡ below → List Strategy
tested d l m p true b e f = []
tested d l m p false false e f = []
tested d l m p false true e f =
    record { default = d; locality = l; majority = m; preferred = p; alone = e; below = ltb-true _ _ f } ∷ []

-- the strategy with these parts, if there is one
abbrev pub with_parts : DefaultRule → Locality → Majority → Sign → List Strategy
with_parts d l m p = tested d l m p (repeats l m) (nat_lt (setting_number d l m p) 48) refl refl

-- all strategies
unfoldable pub every_strategy : List Strategy
every_strategy =
    join_all (λ d. join_all (λ l. join_all (λ m. join_all (λ p. with_parts d l m p)
    (Plus ∷ Minus ∷ []))
    (Skipped ∷ Before ∷ After ∷ []))
    (Anywhere ∷ Nearest ∷ Farthest ∷ []))
    (Dropped ∷ Counts Plus ∷ Counts Minus ∷ [])

-- the first of the strategies with the name
abbrev pub first_named : List Strategy → List ℕ → Option Strategy
first_named [] bs = None
first_named (s ∷ ss) bs = cond (bytes_eq (name_of (number_of s)) bs) (Some s) (first_named ss bs)

-- the strategy with the name, if there is one
unfoldable pub strategy_named : List ℕ → Option Strategy
strategy_named bs = first_named every_strategy bs
