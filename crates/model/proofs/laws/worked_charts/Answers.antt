use Rattle.std.proofs.Common.{refl}
use Rattle.chains.specs.Chains.{chains, count}
use Rattle.chains.specs.Tests.{groupless, leads, too_long, too_many}
use Rattle.plans.specs.Items.{item_chains}
use Rattle.strategies.specs.Resolve.{votes, chosen, tally, resolve}
use Rattle.strategies.specs.Rows.{counted}
use Rattle.model.specs.Model.{join_outcome, leave_outcome, give_outcome, joined, left, given}
use Rattle.model.specs.Question.{over_chains, grant_arrivals, at_or_above, labelled, default_marks, listing}
use Rattle.model.proofs.laws.worked_charts.Goals as goal

pub returns : goal.returns
unfolding chains count item_chains votes chosen tally resolve leads too_long too_many join_outcome leave_outcome give_outcome joined left given over_chains grant_arrivals groupless at_or_above labelled default_marks listing counted
returns c = record {
  two_chains_of_two = refl;
  none_of_one = refl;
  circle_is_refused = refl;
  own_member_is_refused = refl;
  leaving_takes_one = refl;
  plus_arrives_twice = refl;
  minus_arrives_once = refl;
  majority_says_plus = refl;
  farthest_says_plus = refl;
  nearest_says_minus = refl;
  deeper_item_plus = refl;
  deeper_item_minus = refl;
  alone_has_a_default = refl;
  eighth_is_too_long = refl;
  alone_default_plus = refl;
  alone_no_default = refl;
  six_marks_plus = refl;
  six_marks_minus = refl;
}
