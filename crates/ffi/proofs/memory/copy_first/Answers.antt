use Rattle.std.proofs.Common.{◌≡◌, ℕ, ◌+◌, [], ◌∷◌, ◌++◌, take, drop, sym, ap, ◌∙◌, ap₂, arith}
use Rattle.std.proofs.lemmas.List.{drop-set-lt, take-append-drop, take_more, take_more_set}
use Rattle.std.proofs.lemmas.Grind.{drop_more_same}
use Rattle.ffi.proofs.memory.copy_first.Goals as goal

pub loop-i-preserved : goal.loop-i-preserved
loop-i-preserved g c =
    let i = c.loop-i.i in
    let to = c.loop-i.to in
    let from = c.args.from.now in
    let v = c.index-from-i.result in (
      take_more_set to i v (omega arith)
          ∙ ap₂ (λ xs x. xs ++ x ∷ []) c.loop-i.invariant.0 c.index-from-i.is
          ∙ sym (take_more from i v (omega arith)),
      drop-set-lt (i + 1) to i v (omega arith) ∙ drop_more_same to c.args.to.now i c.loop-i.invariant.1,
    )

pub returns : goal.returns
returns g c =
    let all : c.loop-i.i ≡ c.args.many = omega arith in
    sym (take-append-drop c.loop-i.i c.loop-i.to)
    ∙ ap₂ (λ xs ys. xs ++ ys) c.loop-i.invariant.0 c.loop-i.invariant.1
    ∙ ap (λ (m : ℕ). take m c.args.from.now ++ drop m c.args.to.now) all
