use Rattle.std.proofs.Common.{ℕ, List, ◌++◌, length, drop, refl, ap, ◌∙◌, arith}
use Rattle.std.proofs.lemmas.List.{take_all}
use Rattle.ffi.proofs.exports.write_output.Goals as goal

pub returns : goal.returns
returns c =
    let output = c.args.output.now in
    record {
      status = omega arith;
      written = λ _. c.copy_first.ensures ∙ ap (λ (xs : List ℕ). xs ++ drop (length output) c.args.out.now) (take_all (length output) output (omega arith));
      lacking = λ e. absurd (omega arith);
      bytes = refl;
    }
