use Rattle.std.proofs.Common.{◌≡◌, ◌-◌, List, ◌++◌}
use Rattle.std.specs.Vec.{vec_items}
use Rattle.lister.specs.declared.every_chain.Chain.{Chain}
use Rattle.lister.proofs.every_chain.+walk_by_place.Given as goal

abbrev pub decreases-walk_by_place : goal.decreases-walk_by_place
decreases-walk_by_place g l = 8 - l.length

-- what was found before stands in front
abbrev pub invariant-loop-next : goal.invariant-loop-next
invariant-loop-next g l =
    (goal.iterator-loop-next g).can_next l.next-iterator
    × (goal.iterator-loop-next g).is_finite l.next-iterator
    × ((more : List Chain) × (vec_items l.found ≡ vec_items l.initial.found ++ more))
