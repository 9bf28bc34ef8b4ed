use Rattle.quick.proofs.Reading.{read_few}
use Rattle.quick.proofs.defaults.add_default.Goals as goal

pub add_row-requires : goal.add_row-requires
add_row-requires c = record {
  ups = read_few c.args.table.now c.args.a c.args.s c.requires.top c.requires.end c.row-ups.result c.row-ups.ensures;
  room = c.requires.room;
}
