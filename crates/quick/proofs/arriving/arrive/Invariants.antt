use Rattle.table.specs.Tables.{members_in}
use Rattle.plans.specs.Counts.{entry}
use Rattle.std.proofs.Common.{take}
use Rattle.quick.proofs.Arrivals.{ArrivedBy}
use Rattle.quick.proofs.arriving.arrive.Given as goal

-- the grants so far have given what they give
abbrev pub invariant-loop-grant : goal.invariant-loop-grant
invariant-loop-grant l =
    ArrivedBy l.fn.from.table.now.accounts (members_in l.fn.from.table.now) (entry l.items.counts) l.access.account l.access.right (take l.grant-index l.fn.from.grants.now) l.arrived.plus l.arrived.minus l.arrived.held
