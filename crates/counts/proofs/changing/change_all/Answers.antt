use Rattle.std.proofs.Common.{ℕ, ◌+◌, List, sym, refl, ap, subst, arith}
use Rattle.chains.specs.Table.{entry}
use Rattle.counts.proofs.Lines.{Upto, later, up_is, still_low, line_allowed, line_done, line_skipped}
use Rattle.counts.proofs.changing.change_all.Goals as goal
use Rattle.counts.proofs.changing.change_all.Goals.{then-leads_by, else-leads_by}

pub change_line-requires : goal.change_line-requires
change_line-requires g c =
    let t = c.args.counts.now in let u = c.loop-a.counts in let up = c.row.result.now in
    let way = g.C.Change.way in let n = c.args.n in let p = c.args.p in let m = c.args.c in let a = c.loop-a.a in
    let upto = c.loop-a.invariant in let e = c.row.ensures in
    let some = c.if-leads_by.ensures.yes refl in
    record {
      table = record { few = omega arith; fits = omega arith };
      top = omega arith;
      member = c.requires.member;
      apart = λ same.
          let at_a = later way t u n p m a upto a p some.0 (omega arith) in
          let none = c.requires.no_circle some.0 some.2 in
          omega (arith, some.3, at_a, none, ap (λ b. entry t n b p some.0) same);
      up_low = λ i h. omega (arith, up_is way t u n p m a upto up e i h, c.requires.low a p i (omega arith) c.requires.group h);
      low = still_low way t u n p m a upto c.requires.low c.requires.allowed;
      allowed = line_allowed way t u n p m a upto up e c.requires.no_circle (omega arith) c.requires.allowed;
    }

pub loop-a-preserved : goal.loop-a-preserved
loop-a-preserved g c =
    let t = c.args.counts.now in let u = c.loop-a.counts in
    let way = g.C.Change.way in let n = c.args.n in let p = c.args.p in let m = c.args.c in let a = c.loop-a.a in
    let upto = c.loop-a.invariant in
    let P : List ℕ → Type 0 = λ w. Upto way t w n p m (a + 1) in
    elim c.if-leads_by.branch [
      | then-leads_by w ↦ subst P (sym w.counts-is)
          (line_done way t u n p m a upto w.change_line.new.counts w.row.result.now w.row.ensures c.requires.no_circle w.change_line.ensures.sums w.change_line.ensures.before w.change_line.ensures.behind)
      | else-leads_by w ↦ subst P (sym w.counts-is)
          (line_skipped way t u n p m a upto c.requires.no_circle (λ k h. w.if-leads_by.ensures.no refl k (omega arith) h))
    ]
