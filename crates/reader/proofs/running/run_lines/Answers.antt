use Rattle.std.proofs.Common.{ℕ, List, ◌++◌, vec_items, sym, ap, ◌∙◌, append_assoc}
use Rattle.reader.specs.Lists.{unread}
use Rattle.output.specs.Output.{output_line}
use Rattle.reader.specs.Sessions.{lines_output}
use Rattle.reader.specs.Standing.{standing}
use Rattle.reader.proofs.running.run_lines.Goals as goal

pub loop-outcome-preserved : goal.loop-outcome-preserved
loop-outcome-preserved c =
    let r = c.run_line.new.reader in
    let done : List ℕ = vec_items c.loop-outcome.out in
    let line : List ℕ = output_line r.line c.in-Some.outcome in
    let rest : List ℕ = lines_output r.line (standing c.run_line.new.session) (unread r) in
    let pushed = c.in_ok-push_line.ensures.after ∙ ap (λ (k : ℕ). done ++ output_line k c.in-Some.outcome) c.line.ensures.answer in
    ap (λ (bytes : List ℕ). bytes ++ rest) pushed
    ∙ append_assoc done line rest
    ∙ ap (λ (bytes : List ℕ). done ++ bytes) (sym c.in-Some.ensures.answer)
    ∙ c.loop-outcome.invariant
