-- How many accounts have room for their counts. Assumes nothing.
use Rattle.std.specs.Prelude.{ℕ, ◌≤◌}
use Rattle.chains.specs.Table.{size}

-- a number of accounts that is the largest up to 64 whose table fits
pub record Largest (len n : ℕ) : Type 0 where
  pub few : n ≤ 64
  pub fits : size n ≤ len
  pub most : (m : ℕ) → m ≤ 64 → size m ≤ len → m ≤ n
