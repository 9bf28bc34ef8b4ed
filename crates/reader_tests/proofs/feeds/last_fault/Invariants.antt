use Rattle.std.proofs.Common.{length}
use Rattle.reader.specs.Lists.{unread}
use Rattle.reader_tests.proofs.feeds.last_fault.Given as goal

-- each turn reads one of the lines that are left
abbrev pub decreases-loop-line : goal.decreases-loop-line
decreases-loop-line l = length (unread l.reader)
