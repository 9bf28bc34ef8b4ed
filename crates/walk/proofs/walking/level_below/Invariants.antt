use Rattle.std.proofs.Common.{◌≡◌, ℕ, ◌<◌, map, get_or}
use Rattle.lists.specs.Lists.{keep, below}
use Rattle.chains.specs.Table.{shown_members}
use Rattle.walk.specs.Weights.{total}
use Rattle.walk.proofs.walking.level_below.Given as goal

-- each member has what comes from its groups before g
abbrev pub invariant-loop-g : goal.invariant-loop-g
invariant-loop-g g l =
    let w = g.W.Weight in
    (x : ℕ) → x < l.counts.accounts → get_or l.below x w.nothing ≡ total w.nothing w.plus (map (λ y. w.stepped (get_or l.level y w.nothing)) (keep (λ y. shown_members l.counts.accounts l.counts.numbers.now y x) (below l.g)))
