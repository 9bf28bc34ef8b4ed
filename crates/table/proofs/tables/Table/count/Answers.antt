use Rattle.std.proofs.Common.{◌∙◌}
use Rattle.table.proofs.Sound.{at}
use Rattle.table.proofs.tables.Table.count.Goals as goal

pub returns : goal.returns
returns c =
    (rw (c.view.ensures.numbers, c.view.ensures.accounts) at c.count.ensures)
    ∙ at c.args.self.now c.args.a c.args.s c.args.k c.requires.top c.requires.end c.requires.length
