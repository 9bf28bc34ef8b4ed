-- The counts that a view shows. Assumes nothing.
use Rattle.std.specs.Prelude.{ℕ}
use Rattle.chains.specs.Table.{entry}
use Rattle.counts.specs.declared.reading.Counts.{Counts}

-- the count from a to s at length k
abbrev pub count_of : Counts → ℕ → ℕ → ℕ → ℕ
count_of v a s k = entry v.numbers.now v.accounts a s k
