use Rattle.std.proofs.Common.{◌≡◌, ℕ, suc, ◌<◌, map, get_or}
use Rattle.lists.specs.Lists.{below}
use Rattle.chains.specs.Table.{shown_members}
use Rattle.walk.specs.Weights.{total, times}
use Rattle.walk.specs.Levels.{down}
use Rattle.walk.proofs.walking.walk.Given as goal

-- the level is the k-th, and the sum is over the levels up to it
abbrev pub invariant-loop-k : goal.invariant-loop-k
invariant-loop-k g l =
    let w = g.W.Weight in
    let on : ℕ → ℕ → g.row.W.Denot = λ k. times (down w.nothing w.plus w.stepped l.counts.accounts (shown_members l.counts.accounts l.counts.numbers.now)) k (λ y. get_or l.start y w.nothing) in
    ((x : ℕ) → x < l.counts.accounts → get_or l.level x w.nothing ≡ on l._k x)
    × (l.sum ≡ total w.nothing w.plus (map (λ k. on k l.s) (below (suc l._k))))
