-- The worked charts, as one statement about the rules. Assumes nothing.
use Rattle.std.specs.Prelude.{◌≡◌, ℕ, List, [], ◌∷◌, map, Err}
use Rattle.chains.specs.Chains.{count}
use Rattle.plans.specs.Channels.{channels}
use Rattle.strategies.specs.Resolve.{resolve}
use Rattle.strategies.specs.Rows.{counted}
use Rattle.strategies.specs.Six.{six}
use Rattle.strategies.specs.declared.marks.Sign.TheVariants.{Plus, Minus}
use Rattle.strategies.specs.declared.marks.Mark.TheVariants.{Signed, Default}
use Rattle.strategies.specs.declared.marks.Arrival.{Arrival}
use Rattle.strategies.specs.declared.strategy.DefaultRule.TheVariants.{Dropped, Counts}
use Rattle.strategies.specs.declared.strategy.Locality.TheVariants.{Anywhere, Nearest, Farthest}
use Rattle.strategies.specs.declared.strategy.Majority.TheVariants.{Skipped, Before, After}
use Rattle.model.specs.Model.{Model, just_made, joined, left, given, join_outcome}
use Rattle.model.specs.Question.{listing}
use Rattle.model.specs.declared.refusal.Refusal.TheVariants.{Circle, ChainTooLong}

-- joins one after the other, on a just made book of 32 accounts
abbrev pub with_joins : List (ℕ × ℕ) → Model → Model
with_joins [] M = M
with_joins (j ∷ js) M = with_joins js (joined 32 M j.0 j.1)

-- account 0 above 1 and 2, and both above 3
abbrev pub diamond : Model
diamond = with_joins ((0, 1) ∷ (0, 2) ∷ (1, 3) ∷ (2, 3) ∷ []) just_made

-- the diamond with 4 above 3 too, a yes for 0 and a no for 4
abbrev pub given_both : Model
given_both =
    given 32 512
    (given 32 512 (with_joins ((4, 3) ∷ []) diamond) (record { account = 0; item = 1; right = 4; sign = Plus }))
    (record { account = 4; item = 1; right = 4; sign = Minus })

-- a chain of seven memberships
abbrev pub seven_in_a_row : Model
seven_in_a_row = with_joins ((0, 1) ∷ (1, 2) ∷ (2, 3) ∷ (3, 4) ∷ (4, 5) ∷ (5, 6) ∷ (6, 7) ∷ []) just_made

-- how many plus, minus and default marks there are at distance d
abbrev at : ℕ → List Arrival → List ℕ
at d rows = counted (Signed Plus) rows d ∷ counted (Signed Minus) rows d ∷ counted Default rows d ∷ []

-- what reaches an account without groups or grants
abbrev pub alone : List Arrival
alone = listing 32 just_made channels 7 1 4

-- what the rules give on the charts
pub record WorkedCharts : Type 0 where
  pub two_chains_of_two : count 32 diamond.members 0 3 2 ≡ 2
  pub none_of_one : count 32 diamond.members 0 3 1 ≡ 0
  pub circle_is_refused : join_outcome 32 diamond 3 0 ≡ Err Circle
  pub own_member_is_refused : join_outcome 32 diamond 5 5 ≡ Err Circle
  pub leaving_takes_one : count 32 (left 32 diamond 0 1).members 0 3 2 ≡ 1
  pub plus_arrives_twice : at 2 (listing 32 given_both channels 3 1 4) ≡ 2 ∷ 0 ∷ 0 ∷ []
  pub minus_arrives_once : at 1 (listing 32 given_both channels 3 1 4) ≡ 0 ∷ 1 ∷ 0 ∷ []
  pub majority_says_plus : resolve Dropped Anywhere Before Minus (listing 32 given_both channels 3 1 4) ≡ Plus
  pub farthest_says_plus : resolve Dropped Farthest Skipped Minus (listing 32 given_both channels 3 1 4) ≡ Plus
  pub nearest_says_minus : resolve Dropped Nearest After Minus (listing 32 given_both channels 3 1 4) ≡ Minus
  pub deeper_item_plus : at 4 (listing 32 given_both channels 3 5 4) ≡ 2 ∷ 0 ∷ 0 ∷ []
  pub deeper_item_minus : at 3 (listing 32 given_both channels 3 5 4) ≡ 0 ∷ 1 ∷ 0 ∷ []
  pub alone_has_a_default : at 0 alone ≡ 0 ∷ 0 ∷ 1 ∷ []
  pub eighth_is_too_long : join_outcome 32 seven_in_a_row 7 8 ≡ Err ChainTooLong
  pub alone_default_plus : resolve (Counts Plus) Anywhere Skipped Minus alone ≡ Plus
  pub alone_no_default : resolve Dropped Anywhere Skipped Minus alone ≡ Minus
  pub six_marks_plus :
      map (λ t. t six)
      (
      resolve (Counts Plus) Nearest After Plus ∷ resolve (Counts Minus) Nearest Skipped Plus
      ∷ resolve (Counts Plus) Farthest Skipped Minus ∷ resolve Dropped Farthest After Minus
      ∷ resolve Dropped Farthest Before Minus ∷ []
      )
      ≡ Plus ∷ Plus ∷ Plus ∷ Plus ∷ Plus ∷ []
  pub six_marks_minus :
      map (λ t. t six)
      (
      resolve (Counts Minus) Farthest After Minus ∷ resolve (Counts Minus) Anywhere Before Minus
      ∷ resolve Dropped Anywhere Skipped Minus ∷ []
      )
      ≡ Minus ∷ Minus ∷ Minus ∷ []
