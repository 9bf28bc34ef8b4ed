use Rattle.std.proofs.Common.{◌≡◌}
use Rattle.book.specs.Books.{shown}
use Rattle.chains.specs.Table.{shown_members}
use Rattle.saved.specs.Saved.{OnlyMembersChange, before}
use Rattle.saved.proofs.rejoining.rejoin_line.Given as goal

-- the members so far are joined
abbrev pub invariant-loop-member : goal.invariant-loop-member
invariant-loop-member l = record {
  joined : (shown l.book).members ≡ before (shown_members l.wanted.accounts l.wanted.numbers.now) l.group l.member;
  same : OnlyMembersChange l.initial.book l.book;
}
