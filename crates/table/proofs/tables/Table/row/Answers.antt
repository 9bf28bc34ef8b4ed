use Rattle.std.proofs.Common.{◌∙◌}
use Rattle.table.proofs.Sound.{row_shown}
use Rattle.table.proofs.tables.Table.row.Goals as goal

pub returns : goal.returns
returns c =
    (rw (c.view.ensures.numbers, c.view.ensures.accounts) at c.row.ensures)
    ∙ row_shown c.args.self.now c.args.a c.args.s c.requires.top c.requires.end
