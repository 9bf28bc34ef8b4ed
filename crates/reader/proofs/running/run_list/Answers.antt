use Rattle.std.proofs.Common.{◌≡◌, ℕ, ltb, List, ◌++◌, length, sym, ap, ◌∙◌}
use Rattle.std.proofs.lemmas.Bool.{cond-false, cond-true, le-ltb, lt-ltb}
use Rattle.output.specs.declared.outcome.Outcome.TheVariants.{Refused}
use Rattle.reader.specs.Lists.{list_of, unread}
use Rattle.output.specs.Output.{output_line}
use Rattle.reader.specs.Sessions.{lines_output, list_output, started}
use Rattle.reader.specs.Standing.{standing}
use Rattle.reader.proofs.running.run_list.Goals as goal

pub returns-then-text-gt-MOST_BYTES : goal.returns-then-text-gt-MOST_BYTES
unfolding list_output
returns-then-text-gt-MOST_BYTES c =
    let text = c.args.text.now in
    c.in_ok-push_line.ensures.after
    ∙ ap (λ (bytes : List ℕ). bytes ++ output_line 0 (Refused 21)) c.new-out.ensures.items
    ∙ sym (cond-true (ltb 57000 (length text)) (output_line 0 (Refused 21)) (lines_output 0 started (list_of text)) (lt-ltb 57000 (length text) c.if-text-gt-MOST_BYTES.true))

pub returns : goal.returns
unfolding list_output
returns c =
    let text = c.args.text.now in
    let begins : lines_output c.new.result.line (standing c.start-session.result) (unread c.new.result) ≡ lines_output 0 started (list_of text) =
    λ i. lines_output (c.new.ensures.count i) (c.start-session.ensures i) (c.new.ensures.answer i) in
    c.in_ok-run_lines.ensures
    ∙ ap (λ (bytes : List ℕ). bytes ++ lines_output c.new.result.line (standing c.start-session.result) (unread c.new.result)) c.new-out.ensures.items
    ∙ begins
    ∙ sym (cond-false (ltb 57000 (length text)) (output_line 0 (Refused 21)) (lines_output 0 started (list_of text)) (le-ltb 57000 (length text) c.if-text-gt-MOST_BYTES.false))
