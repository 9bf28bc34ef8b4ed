use Rattle.std.proofs.Common.{◌∙◌, arith}
use Rattle.table.specs.Tables.{members_in}
use Rattle.plans.specs.Counts.{entry}
use Rattle.strategies.specs.declared.rows.Rows.{Rows}
use Rattle.model.specs.Model.{Model}
use Rattle.model.proofs.Bounds.{fit_items}
use Rattle.quick.proofs.Bridge.{counts_listing, defaults_all}
use Rattle.quick.proofs.asking.quick_rows.Goals as goal

pub invariant_of-result : goal.invariant_of-result
invariant_of-result g c = record { long = c.arrive-arrived.ensures.plus_row.0; small = c.arrive-arrived.ensures.plus_row.1 }

pub invariant_of-result-2 : goal.invariant_of-result-2
invariant_of-result-2 g c = record { long = c.arrive-arrived.ensures.minus_row.0; small = c.arrive-arrived.ensures.minus_row.1 }

pub invariant_of-result-3 : goal.invariant_of-result-3
invariant_of-result-3 g c = record { long = c.default_row-default.ensures.row.0; small = c.default_row-default.ensures.row.1 }

pub returns : goal.returns
returns g c =
    let t = c.args.from.now.table.now in
    let gs = c.args.from.now.grants.now in
    let counts = c.item_counts-items.result.counts in
    let M : Model = record { members = members_in t; grants = gs } in
    let a = c.arrive-arrived in
    let d = c.default_row-default in
    let rows : Rows = record {
      plus = record { counts = a.result.plus; long = a.ensures.plus_row.0; small = a.ensures.plus_row.1 };
      minus = record { counts = a.result.minus; long = a.ensures.minus_row.0; small = a.ensures.minus_row.1 };
      default = record { counts = d.result; long = d.ensures.row.0; small = d.ensures.row.1 };
    } in
    counts_listing t.accounts M (g.P.Plan.meaning c.args.plan.now) c.args.access.account c.args.access.item c.args.access.right counts c.item_counts-items.ensures.counted
    (fit_items t.accounts gs c.args.from.now.fitting) rows c.arrive-arrived.ensures.plus c.arrive-arrived.ensures.minus
    (λ d l. c.default_row-default.ensures.sums d l
    ∙ defaults_all t.accounts (members_in t) gs (entry counts) c.arrive-arrived.result.held c.args.access.account c.args.access.right d (omega (arith, c.args.from.now.table.now.holds.few)) c.arrive-arrived.ensures.held)
