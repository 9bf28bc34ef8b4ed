-- The strategy with a number. Assumes nothing.
use Rattle.std.specs.Prelude.{ℕ, Option}
use Rattle.std.specs.List.{slice_get}
use Rattle.strategies.specs.declared.strategy.Strategy.{Strategy}
use Rattle.fields.specs.Names.{every_strategy}

-- the strategies stand in the order of their numbers, from 0
unfoldable pub strategy_with : ℕ → Option Strategy
strategy_with n = slice_get every_strategy n
