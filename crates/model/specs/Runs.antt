-- Whole runs: the model fed with one call after the other. Assumes nothing.
use Rattle.std.specs.Prelude.{ℕ, List, [], ◌∷◌}
use Rattle.plans.specs.Items.{Items}
use Rattle.model.specs.Model.{Model, join_outcome, leave_outcome, give_outcome, withdraw_outcome, joined, left, given, withdrawn}
use Rattle.model.specs.Question.{asked, least_asked}
use Rattle.model.specs.declared.call.Call.{Call}
use Rattle.model.specs.declared.call.Call.TheVariants.{Join, Leave, Give, Withdraw, Quick, Walked, Least}
use Rattle.model.specs.declared.call.Reply.{Reply}
use Rattle.model.specs.declared.call.Reply.TheVariants.{Done, Answered, Distance}

-- what stands after a call: a question changes nothing
abbrev pub next : ℕ → ℕ → Model → Call → Model
next n capacity M (Join p c) = joined n M p c
next n capacity M (Leave p c) = left n M p c
next n capacity M (Give g) = given n capacity M g
next n capacity M (Withdraw x) = withdrawn n M x.account x.item x.right
next n capacity M (Quick x t) = M
next n capacity M (Walked x t) = M
next n capacity M (Least x t) = M

-- what a call gives, over the plan it is put on: both questions the same
abbrev pub reply : ℕ → ℕ → Items → Model → Call → Reply
reply n capacity I M (Join p c) = Done (join_outcome n M p c)
reply n capacity I M (Leave p c) = Done (leave_outcome n M p c)
reply n capacity I M (Give g) = Done (give_outcome n capacity M g.account g.item g.right)
reply n capacity I M (Withdraw x) = Done (withdraw_outcome n M x.account x.item x.right)
reply n capacity I M (Quick x t) = Answered (asked n M I x.account x.item x.right t)
reply n capacity I M (Walked x t) = Answered (asked n M I x.account x.item x.right t)
reply n capacity I M (Least x t) = Distance (least_asked n M I x.account x.item x.right t)

-- the model after the calls, and their replies, the first call first
unfoldable pub run : ℕ → ℕ → Model → List Call → Model
run n capacity M [] = M
run n capacity M (c ∷ cs) = run n capacity (next n capacity M c) cs

unfoldable pub run_replies : ℕ → ℕ → Items → Model → List Call → List Reply
run_replies n capacity I M [] = []
run_replies n capacity I M (c ∷ cs) = reply n capacity I M c ∷ run_replies n capacity I (next n capacity M c) cs
