use Rattle.std.proofs.Common.{◌≡◌, take}
use Rattle.book.specs.Books.{capacity_in, shown}
use Rattle.saved.proofs.regranting.regrant.Given as goal

-- the grants so far are given
abbrev pub invariant-loop-grant : goal.invariant-loop-grant
invariant-loop-grant l =
    ((shown l.book).grants ≡ take l.grant-index l.grants)
    × (l.book.table ≡ l.initial.book.table)
    × (capacity_in l.book ≡ capacity_in l.initial.book)
