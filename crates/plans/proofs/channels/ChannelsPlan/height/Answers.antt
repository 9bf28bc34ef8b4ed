use Rattle.std.proofs.Common.{sym}
use Rattle.plans.specs.Halves.{channels_lawful, height_by_digit}
use Rattle.plans.proofs.channels.ChannelsPlan.height.Goals as goal

pub returns-then-known : goal.returns-then-known
returns-then-known c = record {
  answer = sym (height_by_digit c.ilog2.result c.args.item c.ilog2.ensures.power_le c.ilog2.ensures.next_power_gt
      (channels_lawful.small c.args.item (sym c.if-known.ensures.answer)));
}
