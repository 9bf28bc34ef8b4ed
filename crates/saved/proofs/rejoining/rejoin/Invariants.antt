use Rattle.std.proofs.Common.{◌≡◌}
use Rattle.book.specs.Books.{shown}
use Rattle.chains.specs.Table.{shown_members}
use Rattle.saved.specs.Saved.{OnlyMembersChange, before}
use Rattle.saved.proofs.rejoining.rejoin.Given as goal

-- the groups so far have their members
abbrev pub invariant-loop-group : goal.invariant-loop-group
invariant-loop-group l = record {
  joined : (shown l.book).members ≡ before (shown_members l.wanted.accounts l.wanted.numbers.now) l.group 0;
  same : OnlyMembersChange l.initial.book l.book;
}
