-- An access list run line by line: what stands, what each line comes to, and the bytes that are written. Assumes nothing.
use Rattle.std.specs.Prelude.{ℕ, ◌+◌, cond, List, [], ◌∷◌, ◌++◌, length, Ok, Err, Result, nat_lt, refl}
use Rattle.std.proofs.Common.{lit<}
use Rattle.strategies.specs.declared.marks.Sign.TheVariants.{Minus}
use Rattle.strategies.specs.declared.strategy.DefaultRule.TheVariants.{Dropped}
use Rattle.strategies.specs.declared.strategy.Locality.TheVariants.{Anywhere}
use Rattle.strategies.specs.declared.strategy.Majority.TheVariants.{Skipped}
use Rattle.strategies.specs.declared.strategy.Strategy.{Strategy}
use Rattle.plans.specs.Channels.{channels}
use Rattle.plans.specs.Filling.{add_after, add_answer, no_items}
use Rattle.plans.specs.Items.{Items}
use Rattle.plans.specs.Refusals.{refusal_number as equipment_number}
use Rattle.plans.specs.declared.refusal.EquipmentRefusal.{EquipmentRefusal}
use Rattle.model.specs.Model.{Model, give_outcome, given, join_outcome, joined, just_made, leave_outcome, left, withdraw_outcome, withdrawn}
use Rattle.model.specs.Question.{asked}
use Rattle.model.specs.Refusals.{refusal_number}
use Rattle.model.specs.declared.answer.Answer.{Answer}
use Rattle.model.specs.declared.refusal.Refusal.{Refusal}
use Rattle.lines.specs.declared.line.Line.{Line}
use Rattle.lines.specs.declared.line.Line.TheVariants.{Join, Leave, Give, Withdraw, Ask, Equip, Choose}
use Rattle.output.specs.declared.outcome.Outcome.{Outcome}
use Rattle.output.specs.declared.outcome.Outcome.TheVariants.{Done, Refused, Faulty, Answered}
use Rattle.reader.specs.Lists.{ListFault, list_of}
use Rattle.output.specs.Output.{output_line}

-- what stands while a list is run: the book's model, the equipment, and the strategy of the questions that follow
pub record Session : Type 0 where
  pub model : Model
  pub equipment : Items
  pub strategy : Strategy

-- the strategy P-
abbrev pub prefer_minus : Strategy
prefer_minus = record { default = Dropped; locality = Anywhere; majority = Skipped; preferred = Minus; alone = refl; below = lit< tt }

-- before the first line
abbrev pub started : Session
started = record { model = just_made; equipment = no_items; strategy = prefer_minus }

-- the plan that a right is asked over: rights 0 to 3 the equipment, others the channels
abbrev pub plan_for : Items → ℕ → Items
plan_for equipment right = cond (nat_lt right 4) equipment channels

-- a call that gives nothing is done, or refused with the number of its refusal
abbrev pub by_call : {R : Type 0} → (R → ℕ) → Result (Unit {0}) R → Outcome
by_call number_of (Ok u) = Done
by_call number_of (Err e) = Refused (number_of e)

abbrev pub by_book : Result (Unit {0}) Refusal → Outcome
by_book reply = by_call refusal_number reply

abbrev pub by_equipment : Result (Unit {0}) EquipmentRefusal → Outcome
by_equipment reply = by_call equipment_number reply

abbrev pub by_question : Result Answer Refusal → Outcome
by_question (Ok a) = Answered a.sign a.plus_total a.minus_total
by_question (Err e) = Refused (refusal_number e)

-- what a line comes to; the book has 32 accounts and room for 512 grants
abbrev pub outcome_of : Session → Line → Outcome
outcome_of S (Join p c) = by_book (join_outcome 32 S.model p c)
outcome_of S (Leave p c) = by_book (leave_outcome 32 S.model p c)
outcome_of S (Give g) = by_book (give_outcome 32 512 S.model g.account g.item g.right)
outcome_of S (Withdraw a) = by_book (withdraw_outcome 32 S.model a.account a.item a.right)
outcome_of S (Ask a) = by_question (asked 32 S.model (plan_for S.equipment a.right) a.account a.item a.right S.strategy)
outcome_of S (Equip i x y) = by_equipment (add_answer S.equipment i x y)
outcome_of S (Choose t) = Done

-- what stands after it
abbrev pub session_after : Session → Line → Session
session_after S (Join p c) = record { model = joined 32 S.model p c; equipment = S.equipment; strategy = S.strategy }
session_after S (Leave p c) = record { model = left 32 S.model p c; equipment = S.equipment; strategy = S.strategy }
session_after S (Give g) = record { model = given 32 512 S.model g; equipment = S.equipment; strategy = S.strategy }
session_after S (Withdraw a) = record { model = withdrawn 32 S.model a.account a.item a.right; equipment = S.equipment; strategy = S.strategy }
session_after S (Ask a) = S
session_after S (Equip i x y) = record { model = S.model; equipment = add_after S.equipment i x y; strategy = S.strategy }
session_after S (Choose t) = record { model = S.model; equipment = S.equipment; strategy = t }

-- the output of the lines behind the first n: a faulty line makes no call
unfoldable pub lines_output : ℕ → Session → List (Result Line ListFault) → List ℕ
lines_output n S [] = []
lines_output n S (Ok line ∷ rest) = output_line (n + 1) (outcome_of S line) ++ lines_output (n + 1) (session_after S line) rest
lines_output n S (Err f ∷ rest) = output_line (n + 1) (Faulty f.fault) ++ lines_output (n + 1) S rest

-- the output of a whole list: above 57,000 bytes one line that says 21
unfoldable pub list_output : List ℕ → List ℕ
list_output text = cond (nat_lt 57000 (length text)) (output_line 0 (Refused 21)) (lines_output 0 started (list_of text))
