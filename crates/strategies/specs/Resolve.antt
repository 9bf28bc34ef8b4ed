-- The marks that reach a question, and the sign that a setting reads off them. Assumes nothing.
use Rattle.std.specs.Prelude.{ℕ, min, max, Bool, true, false, cond, List, [], ◌∷◌, map, length, nat_eq, nat_lt}
use Rattle.lists.specs.Lists.{keep, join_all}
use Rattle.strategies.specs.declared.marks.Sign.{Sign}
use Rattle.strategies.specs.declared.marks.Sign.TheVariants.{Plus, Minus}
use Rattle.strategies.specs.declared.marks.Mark.{Mark}
use Rattle.strategies.specs.declared.marks.Mark.TheVariants.{Signed, Default}
use Rattle.strategies.specs.declared.marks.Arrival.{Arrival}
use Rattle.strategies.specs.declared.strategy.DefaultRule.{DefaultRule}
use Rattle.strategies.specs.declared.strategy.DefaultRule.TheVariants.{Dropped, Counts}
use Rattle.strategies.specs.declared.strategy.Locality.{Locality}
use Rattle.strategies.specs.declared.strategy.Locality.TheVariants.{Anywhere, Nearest, Farthest}
use Rattle.strategies.specs.declared.strategy.Majority.{Majority}
use Rattle.strategies.specs.declared.strategy.Strategy.{Strategy}
use Rattle.strategies.specs.declared.strategy.Majority.TheVariants.{Skipped, Before, After}

-- a row that is left once default marks are settled
pub record Vote : Type 0 where
  pub sign : Sign
  pub distance : ℕ

abbrev pub same_sign : Sign → Sign → Bool
same_sign Plus Plus = true
same_sign Plus Minus = false
same_sign Minus Plus = false
same_sign Minus Minus = true

-- first step: a default mark counts as the sign of the default rule, or is dropped
abbrev pub vote_of : DefaultRule → Mark → ℕ → List Vote
vote_of d (Signed s) n = record { sign = s; distance = n } ∷ []
vote_of Dropped Default n = []
vote_of (Counts s) Default n = record { sign = s; distance = n } ∷ []

unfoldable pub votes : DefaultRule → List Arrival → List Vote
votes d rows = join_all (λ r. vote_of d r.mark r.distance) rows

abbrev pub distances : List Vote → List ℕ
distances = map (λ v. v.distance)

abbrev pub least_of : ℕ → List ℕ → ℕ
least_of x [] = x
least_of x (y ∷ ys) = least_of (min x y) ys

abbrev pub greatest_of : ℕ → List ℕ → ℕ
greatest_of x [] = x
greatest_of x (y ∷ ys) = greatest_of (max x y) ys

-- second step: the rows at the least or the greatest distance at which any sign is left, or all rows
unfoldable pub chosen : Locality → List Vote → List Vote
chosen Anywhere vs = vs
chosen Nearest [] = []
chosen Nearest (v ∷ vs) = keep (λ w. nat_eq w.distance (least_of v.distance (distances vs))) (v ∷ vs)
chosen Farthest [] = []
chosen Farthest (v ∷ vs) = keep (λ w. nat_eq w.distance (greatest_of v.distance (distances vs))) (v ∷ vs)

-- how many rows have the sign
unfoldable pub tally : Sign → List Vote → ℕ
tally s vs = length (keep (λ v. same_sign s v.sign) vs)

-- last step: a single sign gives the answer, both or none the preferred one
abbrev pub single : Sign → ℕ → ℕ → Sign
single p plus minus = cond (nat_lt 0 plus) (cond (nat_lt 0 minus) p Plus) (cond (nat_lt 0 minus) Minus p)

-- third step: the larger number gives the answer, equal numbers leave it to the last step
abbrev pub larger : ℕ → ℕ → Sign → Sign
larger plus minus rest = cond (nat_lt minus plus) Plus (cond (nat_lt plus minus) Minus rest)

abbrev pub by_majority : Majority → List Vote → List Vote → Sign → Sign
by_majority Skipped every local rest = rest
by_majority Before every local rest = larger (tally Plus every) (tally Minus every) rest
by_majority After every local rest = larger (tally Plus local) (tally Minus local) rest

unfoldable pub resolve : DefaultRule → Locality → Majority → Sign → List Arrival → Sign
resolve d l m p rows =
    let every = votes d rows in
    let local = chosen l every in
    by_majority m every local (single p (tally Plus local) (tally Minus local))

-- what a strategy gives on a list of arrivals
abbrev pub decided : Strategy → List Arrival → Sign
decided s rows = resolve s.default s.locality s.majority s.preferred rows
