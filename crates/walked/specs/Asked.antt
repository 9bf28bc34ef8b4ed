-- What the walk finds, in the counts of grants and accounts. Assumes nothing.
use Rattle.std.specs.Prelude.{◌≡◌, ℕ, ◌<◌, List}
use Rattle.chains.specs.Chains.{Members}
use Rattle.strategies.specs.Rows.{row_at}
use Rattle.strategies.specs.declared.marks.Sign.{Sign}
use Rattle.strategies.specs.declared.marks.Mark.TheVariants.{Signed, Default}
use Rattle.strategies.specs.declared.rows.Rows.{Rows}
use Rattle.table.specs.Tables.{members_in}
use Rattle.table.specs.declared.tables.Table.{Table}
use Rattle.walk.specs.Counts.{limited}
use Rattle.model.specs.Counted.{Lengths, of_grants, of_accounts}
use Rattle.model.specs.Model.{Model}
use Rattle.model.specs.declared.grant.Grant.{Grant}

-- what stands: the memberships that the table shows, and the grants
abbrev pub standing : Table → List Grant → Model
standing t grants = record { members = members_in t; grants = grants }

-- the rows count what grants and accounts give at each distance, up to a million million
pub record RowsBy (n : ℕ) (E : Members) (grants : List Grant) (L : Lengths) (s r : ℕ) (rows : Rows) : Type 0 where
  pub signed : (sign : Sign) (d : ℕ) → d < 15 → row_at rows (Signed sign) d ≡ limited (of_grants n E grants L s r sign d)
  pub default : (d : ℕ) → d < 15 → row_at rows Default d ≡ limited (of_accounts n E grants L s r d)
