use Rattle.std.proofs.Common.{rules}
use Rattle.table.proofs.Joins.{long_test}
use Rattle.table.proofs.Sound.{own}
use Rattle.table.proofs.tables.Table.too_long.Goals as goal

pub is_too_long-requires : goal.is_too_long-requires
is_too_long-requires c =
    record {
      group = search rules;
      member = search rules;
      own = rw (c.view.ensures.numbers, c.view.ensures.accounts) (own c.args.self.now);
    }

pub returns : goal.returns
returns c =
    long_test c.args.self.now c.args.p c.args.c c.requires.group c.requires.member c.requires.free
    c.is_too_long.result (rw (c.view.ensures.numbers, c.view.ensures.accounts) at c.is_too_long.ensures.yes) (rw (c.view.ensures.numbers, c.view.ensures.accounts) at c.is_too_long.ensures.no)
