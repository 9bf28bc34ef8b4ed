use Rattle.std.proofs.Common.{◌≡◌, ℕ, ◌<◌}
use Rattle.counts.specs.Views.{count_of}
use Rattle.counts.proofs.reading.Counts.longest_from.Given as goal

-- the greatest length of a chain from c to an account below s
abbrev pub invariant-loop-s : goal.invariant-loop-s
invariant-loop-s l =
    (l.most < 8)
    × ((b : ℕ) → b < l.s → (k : ℕ) → l.most < k → k < 8 → count_of l.self l.c b k ≡ 0)
    × (0 < l.most → (b : ℕ) × (b < l.self.accounts) × (0 < count_of l.self l.c b l.most))
