use Rattle.std.proofs.Common.{◌≡◌, ℕ, ◌<◌, ◌≤◌, cond, get_or}
use Rattle.chains.specs.Table.{shown_members}
use Rattle.walk.proofs.walking.spread.Given as goal

-- the members before m have the weight, the others are as they were
abbrev pub invariant-loop-m : goal.invariant-loop-m
invariant-loop-m g l =
    let w = g.W.Weight in
    let was : ℕ → g.row.W.Denot = λ x. get_or l.initial.below x w.nothing in
    ((x : ℕ) → x < l.m → get_or l.below x w.nothing ≡ cond (shown_members l.counts.accounts l.counts.numbers.now l.group x) (w.plus (was x) l.weight) (was x))
    × ((x : ℕ) → l.m ≤ x → get_or l.below x w.nothing ≡ was x)
