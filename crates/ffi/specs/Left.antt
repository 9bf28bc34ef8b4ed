-- Memory that a run left, which a later run goes on with. Assumes nothing.
use Rattle.std.specs.Prelude.{◌≡◌, ℕ, ◌≤◌, min, Bool, false, cond, List, map, length, take, ◌==◌, nat_lt}
use Rattle.lists.specs.Lists.{some}
use Rattle.strategies.specs.declared.marks.Sign.TheVariants.{Plus, Minus}
use Rattle.model.specs.Model.{Model}
use Rattle.model.specs.declared.grant.Grant.{Grant}
use Rattle.saved.specs.Saved.{LeftByABook, said_by}
use Rattle.ffi.specs.declared.plain.GrantRecord.{GrantRecord}

-- is the number of the sign none of the two?
abbrev pub bad_sign : GrantRecord → Bool
bad_sign r = nat_lt 1 r.sign

-- the grant of a record
abbrev pub grant_of : GrantRecord → Grant
grant_of r = record { account = r.account; item = r.item; right = r.right; sign = cond (r.sign == 0) Plus Minus }

-- the grants of the first records
abbrev pub grants_in : List GrantRecord → ℕ → List Grant
grants_in records many = map grant_of (take many records)

-- what stands by the counts of n accounts and the first records
abbrev pub said_in : ℕ → List ℕ → List GrantRecord → ℕ → Model
said_in n counts records many = said_by n counts (grants_in records many)

-- a book of n accounts can have left the counts and so many records, with as much room as there are records
pub record LeftBehind (n : ℕ) (counts : List ℕ) (records : List GrantRecord) (many : ℕ) : Type 0 where
  pub within : many ≤ length records
  pub signs : some bad_sign (take many records) ≡ false
  pub book : LeftByABook n (min 512 (length records)) counts (grants_in records many)
