use Rattle.std.proofs.Common.{◌≡◌, ◌+◌, ◌-◌, List, ◌++◌, take}
use Rattle.std.specs.Vec.{vec_items}
use Rattle.lister.specs.declared.every_chain.Chain.{Chain}
use Rattle.lister.specs.Walks.{Each, Walked}
use Rattle.lister.proofs.every_chain.+walk.Given as goal

abbrev pub decreases-walk : goal.decreases-walk
decreases-walk g l = 8 - l.length

-- behind what was found before stands what is listed for each of the numbers so far
abbrev pub invariant-loop-next : goal.invariant-loop-next
invariant-loop-next g l =
    (parts : List Chain) × (vec_items l.found ≡ vec_items l.initial.found ++ parts)
    × Each (λ further. Walked (goal.F-post g l.onward) (8 - (l.length + 1)) further (l.length + 1)) (take l.next-index l.next-items) parts
