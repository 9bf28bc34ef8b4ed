use Rattle.std.proofs.Common.{get_or, refl, ap, rules}
use Rattle.plans.specs.Counts.{entry}
use Rattle.table.specs.Tables.{members_in}
use Rattle.strategies.specs.Resolve.{same_sign}
use Rattle.strategies.specs.declared.marks.Sign.TheVariants.{Plus, Minus}
use Rattle.quick.proofs.Gives.{gives, gives_none}
use Rattle.quick.proofs.Reading.{read_few}
use Rattle.quick.proofs.arriving.Arrived.add.Goals as goal

pub add_pairs-requires : goal.add_pairs-requires
add_pairs-requires c = record {
  ups = read_few c.args.table.now c.args.grant.account c.args.s c.requires.account c.requires.end c.row-ups.result c.row-ups.ensures;
  small = λ j. c.args.items.now.few c.args.grant.item j c.requires.item;
  room = c.requires.plus_room;
}

pub add_pairs-requires-in-Minus : goal.add_pairs-requires-in-Minus
add_pairs-requires-in-Minus c = record {
  ups = read_few c.args.table.now c.args.grant.account c.args.s c.requires.account c.requires.end c.row-ups.result c.row-ups.ensures;
  small = λ j. c.args.items.now.few c.args.grant.item j c.requires.item;
  room = c.requires.minus_room;
}

pub returns-in-Plus : goal.returns-in-Plus
returns-in-Plus c =
    let t = c.args.table.now in
    let g = c.args.grant in
    let L = entry c.args.items.now.counts in
    record {
      plus = λ d l.
          gives t.accounts (members_in t) L c.args.s g.right Plus d g c.row-ups.result _ (get_or c.args.self.now.plus d 0) c.row-ups.ensures refl
          (ap (same_sign Plus) c.in-Plus.is) (c.add_pairs.ensures.sums d l);
      minus = λ d l. gives_none t.accounts (members_in t) L c.args.s g.right Minus d g (get_or c.args.self.now.minus d 0) (ap (same_sign Minus) c.in-Plus.is);
      held = search rules;
      long = search rules;
    }

pub returns-in-Minus : goal.returns-in-Minus
returns-in-Minus c =
    let t = c.args.table.now in
    let g = c.args.grant in
    let L = entry c.args.items.now.counts in
    record {
      plus = λ d l. gives_none t.accounts (members_in t) L c.args.s g.right Plus d g (get_or c.args.self.now.plus d 0) (ap (same_sign Plus) c.in-Minus.is);
      minus = λ d l.
          gives t.accounts (members_in t) L c.args.s g.right Minus d g c.row-ups.result _ (get_or c.args.self.now.minus d 0) c.row-ups.ensures refl
          (ap (same_sign Minus) c.in-Minus.is) (c.add_pairs-in-Minus.ensures.sums d l);
      held = search rules;
      long = search rules;
    }
