use Rattle.std.proofs.Common.{refl, arith}
use Rattle.chains.specs.Table.{entry}
use Rattle.counts.proofs.Rows.{after_is, row_low, through_no_down}
use Rattle.counts.proofs.reading.Counts.pair_passes.Goals as goal

pub row_passes-requires : goal.row_passes-requires
row_passes-requires c =
    let t = c.args.self.numbers.now in let n = c.args.self.accounts in let q = c.requires in
    record {
      low = row_low t c.row.result.now n c.args.a c.args.s c.row.ensures q.low q.top q.end;
      up_low = row_low t c.row-then-leads_by.result.now n c.args.a c.args.p c.row-then-leads_by.ensures q.low q.top q.group;
      down_low = row_low t c.row-then-leads_by-2.result.now n c.args.c c.args.s c.row-then-leads_by-2.ensures q.low q.member q.end;
    }

pub returns-then-leads_by : goal.returns-then-leads_by
returns-then-leads_by c =
    let after = after_is c.args.self.numbers.now c.row.result.now c.row-then-leads_by.result.now c.row-then-leads_by-2.result.now
    c.args.self.accounts c.args.a c.args.s c.args.p c.args.c c.row.ensures c.row-then-leads_by.ensures c.row-then-leads_by-2.ensures in
    record {
      yes = λ e. let some = c.row_passes.ensures.yes e in (some.0, some.1, omega (arith, some.2, after some.0 some.1));
      no = λ e k h. omega (arith, c.row_passes.ensures.no e k h, after k h);
    }

pub returns-else-leads_by-clause-no : goal.returns-else-leads_by-clause-no
returns-else-leads_by-clause-no c =
    let t = c.args.self.numbers.now in let n = c.args.self.accounts in
    λ e k h. omega (
      arith,
      c.requires.low c.args.a c.args.s k c.requires.top c.requires.end h,
      through_no_down (entry t n c.args.a c.args.p) (entry t n c.args.c c.args.s) k
          (λ i l. c.if-leads_by.ensures.no refl i (omega arith) (omega arith)),
    )
