use Rattle.std.proofs.Common.{rules}
use Rattle.table.proofs.Joins.{many_test}
use Rattle.table.proofs.Sound.{is_low}
use Rattle.table.proofs.tables.Table.too_many.Goals as goal

pub passes-requires : goal.passes-requires
passes-requires c =
    record {
      group = search rules;
      member = search rules;
      low = rw (c.view.ensures.numbers, c.view.ensures.accounts) (is_low c.args.self.now);
    }

pub returns : goal.returns
returns c =
    many_test c.args.self.now c.args.p c.args.c c.requires.group c.requires.member c.requires.free c.requires.new
    c.passes.result (rw (c.view.ensures.numbers, c.view.ensures.accounts) at c.passes.ensures.yes) (rw (c.view.ensures.numbers, c.view.ensures.accounts) at c.passes.ensures.no)
