use Rattle.std.proofs.Common.{ℕ, ◌+◌, ◌<◌, List, sym, refl, subst, arith}
use Rattle.chains.proofs.Places.{row_below}
use Rattle.counts.proofs.Along.{Along, down_is, row_allowed, row_done, row_skipped}
use Rattle.counts.proofs.changing.change_line.Goals as goal
use Rattle.counts.proofs.changing.change_line.Goals.{then-leads_by, else-leads_by}

pub change_row-requires : goal.change_row-requires
change_row-requires g c =
    let t = c.args.counts.now in let u = c.loop-s.counts in let up = c.args.up.now in let way = g.C.Change.way in
    let n = c.args.n in let a = c.args.a in let m = c.args.c in let s = c.loop-s.s in
    let lt : s < n = omega arith in let along = c.loop-s.invariant in
    let down = c.row.result.now in let e = c.row.ensures in
    record {
      fits = omega (arith, row_below n a s c.requires.top lt);
      up_low = c.requires.up_low;
      down_low = λ i h. omega (arith, down_is way t u up n a m s along c.requires.apart lt down e i h, c.requires.low m s i c.requires.member lt h);
      allowed = row_allowed way t u up n a m s along c.requires.apart lt down e (λ k h. c.requires.allowed s k lt h);
    }

pub loop-s-preserved : goal.loop-s-preserved
loop-s-preserved g c =
    let t = c.args.counts.now in let u = c.loop-s.counts in let up = c.args.up.now in let way = g.C.Change.way in
    let n = c.args.n in let a = c.args.a in let m = c.args.c in let s = c.loop-s.s in
    let lt : s < n = omega arith in let along = c.loop-s.invariant in
    let P : List ℕ → Type 0 = λ v. Along way t v up n a m (s + 1) in
    elim c.if-leads_by.branch [
      | then-leads_by w ↦ subst P (sym w.counts-is)
          (row_done way t u up n a m s along c.requires.apart lt w.change_row.new.counts w.row.result.now w.row.ensures
          w.change_row.ensures.sums w.change_row.ensures.before w.change_row.ensures.behind)
      | else-leads_by w ↦ subst P (sym w.counts-is)
          (row_skipped way t u up n a m s along c.requires.apart lt (λ k h. w.if-leads_by.ensures.no refl k (omega arith) h))
    ]
