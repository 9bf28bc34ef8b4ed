use Rattle.std.proofs.Common.{◌≡◌, sym, refl, ap, ◌∙◌, arith}
use Rattle.counts.specs.Rows.{at_of, through}
use Rattle.counts.proofs.Lines.{changed_none}
use Rattle.counts.proofs.Rows.{through_start}
use Rattle.counts.proofs.changing.change_row.Goals as goal

pub loop-k-init : goal.loop-k-init
loop-k-init g c =
    let up = at_of c.args.up.now in let down = at_of c.args.down.now in (
      (λ j lt.
          let first : j ≡ 0 = omega arith in
          sym (changed_none g.C.Change.way _ _ (ap (through up down) first ∙ through_start up down))),
      (λ q lt. refl),
      (λ q le. refl),
    )
