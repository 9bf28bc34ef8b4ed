-- What a question lists, every arrival and default mark chain by chain, and what it answers. Assumes nothing.
use Rattle.std.specs.Prelude.{ℕ, ◌+◌, Bool, cond, not, ◌&&◌, List, [], ◌∷◌, ◌++◌, map, Some, None, Option, Result, ◌==◌}
use Rattle.lists.specs.Lists.{any_at_all, below, join_all, keep, some}
use Rattle.chains.specs.Chains.{Members, chains}
use Rattle.chains.specs.Tests.{groupless}
use Rattle.plans.specs.Items.{Items, item_chains}
use Rattle.strategies.specs.Resolve.{votes, tally, least_of, decided}
use Rattle.strategies.specs.Rows.{counted, same_mark}
use Rattle.strategies.specs.declared.marks.Sign.{Sign}
use Rattle.strategies.specs.declared.marks.Sign.TheVariants.{Plus, Minus}
use Rattle.strategies.specs.declared.marks.Mark.{Mark}
use Rattle.strategies.specs.declared.marks.Mark.TheVariants.{Signed, Default}
use Rattle.strategies.specs.declared.marks.Arrival.{Arrival}
use Rattle.strategies.specs.declared.strategy.Strategy.{Strategy}
use Rattle.model.specs.Refusals.{Outcome, checks, where_answered}
use Rattle.model.specs.Model.{Model, out_of_range}
use Rattle.model.specs.declared.grant.Grant.{Grant}
use Rattle.model.specs.declared.answer.Answer.{Answer}
use Rattle.model.specs.declared.refusal.Refusal.{Refusal}
use Rattle.model.specs.declared.refusal.Refusal.TheVariants.{ItemUnknown}

-- one arrival of the mark for each listed account chain from a to s, at its length and so much more
unfoldable pub over_chains : ℕ → Members → ℕ → ℕ → Mark → ℕ → List Arrival
over_chains n E a s m more =
    join_all (λ k. map (λ path. record { mark = m; distance = k + more }) (chains n E a s k)) (below 8)

-- one arrival for each pair of an account chain and an item chain, at the sum of their lengths
unfoldable pub grant_arrivals : ℕ → Members → Items → ℕ → ℕ → ℕ → Grant → List Arrival
grant_arrivals n E I s o r g =
    cond (g.right == r)
    (join_all (λ j. join_all (λ path. over_chains n E g.account s (Signed g.sign) j) (item_chains I g.item o j)) (below 8))
    []

-- is item b item o, or above it?
unfoldable pub at_or_above : Items → ℕ → ℕ → Bool
at_or_above I b o = some (λ k. any_at_all (item_chains I b o k)) (below 8)

-- does the account hold a grant of the right on item o or on one above it?
unfoldable pub labelled : Model → Items → ℕ → ℕ → ℕ → Bool
labelled M I a o r = some (λ g. (g.account == a) && (g.right == r && at_or_above I g.item o)) M.grants

-- does the account give default marks? It is a member of none, and holds no grant of the right on item o or above it.
abbrev pub unmarked : ℕ → Model → Items → ℕ → ℕ → ℕ → Bool
unmarked n M I o r a = groupless n M.members a && not (labelled M I a o r)

-- one default mark for each chain from such an account, at the chain's length
unfoldable pub default_marks : ℕ → Model → Items → ℕ → ℕ → ℕ → List Arrival
default_marks n M I s o r = join_all (λ a. over_chains n M.members a s Default 0) (keep (unmarked n M I o r) (below n))

-- all that reaches account s on item o for right r
unfoldable pub listing : ℕ → Model → Items → ℕ → ℕ → ℕ → List Arrival
listing n M I s o r = join_all (grant_arrivals n M.members I s o r) M.grants ++ default_marks n M I s o r

-- the sign, the counts by mark and distance, and the totals of a listing
unfoldable pub answer_of : Strategy → List Arrival → Answer
answer_of t rows = record {
  sign = decided t rows;
  plus = map (counted (Signed Plus) rows) (below 15);
  minus = map (counted (Signed Minus) rows) (below 15);
  default = map (counted Default rows) (below 15);
  plus_total = tally Plus (votes t.default rows);
  minus_total = tally Minus (votes t.default rows);
}

-- what is checked before a question is answered
abbrev pub question_checks : ℕ → Items → ℕ → ℕ → ℕ → List (Bool × Refusal)
question_checks n I s o r = out_of_range n s o r ++ ((not (I.known o), ItemUnknown) ∷ [])

unfoldable pub question_outcome : ℕ → Items → ℕ → ℕ → ℕ → Outcome
question_outcome n I s o r = checks (question_checks n I s o r)

-- what both questions answer
unfoldable pub asked : ℕ → Model → Items → ℕ → ℕ → ℕ → Strategy → Result Answer Refusal
asked n M I s o r t = where_answered (question_outcome n I s o r) (answer_of t (listing n M I s o r))

-- the least of some distances, if there are any
abbrev pub nearest_of : List ℕ → Option ℕ
nearest_of [] = None
nearest_of (d ∷ ds) = Some (least_of d ds)

-- the least distance of an arrival of the sign, or none
unfoldable pub least_asked : ℕ → Model → Items → ℕ → ℕ → ℕ → Sign → Result (Option ℕ) Refusal
least_asked n M I s o r t =
    where_answered (question_outcome n I s o r)
    (nearest_of (map (λ a. a.distance) (keep (λ a. same_mark (Signed t) a.mark) (listing n M I s o r))))
