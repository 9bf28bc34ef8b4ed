-- What a book holds: its accounts, its memory, and the model that it shows. Assumes nothing.
use Rattle.std.specs.Prelude.{ℕ, List}
use Rattle.model.specs.Model.{Model}
use Rattle.model.specs.declared.grant.Grant.{Grant}
use Rattle.records.specs.Records.{capacity_of, standing_in}
use Rattle.table.specs.Tables.{members_in}
use Rattle.book.specs.declared.books.Book.{Book}

-- how many accounts the book knows
abbrev pub accounts_of : Book → ℕ
accounts_of b = b.table.accounts

-- how many grants may stand
abbrev pub capacity_in : Book → ℕ
capacity_in b = capacity_of b.grants

-- the lent counts, those behind the table too
abbrev pub counts_in : Book → List ℕ
counts_in b = b.table.counts.now

-- the lent records, those that do not stand too
abbrev pub records_in : Book → List Grant
records_in b = b.grants.records.now

-- what stands in the book: the memberships that its counts of length 1 show, and the standing records
abbrev pub shown : Book → Model
shown b = record { members = members_in b.table; grants = standing_in b.grants }
