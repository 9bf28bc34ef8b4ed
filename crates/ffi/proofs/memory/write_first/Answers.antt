use Rattle.std.proofs.Common.{◌+◌, take, ◌∙◌, arith}
use Rattle.std.proofs.lemmas.List.{drop-set-lt, take_more, take_more_set}
use Rattle.std.proofs.lemmas.Slice.Zip.{all_zipped_more}
use Rattle.std.proofs.lemmas.Grind.{drop_more_same}
use Rattle.ffi.proofs.memory.write_first.Goals as goal

pub loop-i-preserved : goal.loop-i-preserved
loop-i-preserved g c =
    let i = c.loop-i.i in
    let to = c.loop-i.to in
    let from = c.args.from.now in
    let x = c.index-from-i.result in
    let y = c.from.result in
    let here = all_zipped_more g.R.From.from_gives (take i from) (take i to) x y c.loop-i.invariant.0 c.from.ensures in (
      rw (take_more from i x (omega arith), ← c.index-from-i.is, take_more_set to i y (omega arith)) here,
      drop-set-lt (i + 1) to i y (omega arith) ∙ drop_more_same to c.args.to.now i c.loop-i.invariant.1,
    )
