use Rattle.std.proofs.Common.{Ok, sym, ap, ◌∙◌}
use Rattle.reader.specs.Lists.{lines_left, unread}
use Rattle.reader.specs.Standing.{standing}
use Rattle.reader.proofs.LinesRun.{counted, ended, fault_output, is_fault, is_line, line_output, none_output}
use Rattle.reader.proofs.running.run_line.Goals as goal

pub returns-in-Ok-None-clause-answer : goal.returns-in-Ok-None-clause-answer
returns-in-Ok-None-clause-answer c =
    let r = c.args.reader.now in
    none_output r.line (standing c.args.session.now) (unread r) (ended (unread r) (sym (ap Ok c.in-Ok-None.field-0-is) ∙ c.in-Ok-None.ensures.answer))

pub returns-in-Ok-Some-clause-answer : goal.returns-in-Ok-Some-clause-answer
returns-in-Ok-Some-clause-answer c =
    let r = c.args.reader.now in
    let s = c.next.new.self in
    let is = is_line (unread r) c.in-Ok-Some.line (sym (ap Ok c.in-Ok-Some.field-0-is) ∙ c.in-Ok-Some.ensures.answer) in
    let number = c.next.ensures.count ∙ counted r.line (lines_left r) _ _ is in
    line_output r.line s.line (standing c.args.session.now) (standing c.act.new.self) (unread r) (unread s) c.in-Ok-Some.line c.act.result is
    c.next.ensures.after number c.act.ensures.answer c.act.ensures.after

pub returns-in-Err-clause-answer : goal.returns-in-Err-clause-answer
returns-in-Err-clause-answer c =
    let r = c.args.reader.now in
    let s = c.next.new.self in
    let is = is_fault (unread r) c.in-Err.at c.in-Err.ensures.answer in
    let number = c.next.ensures.count ∙ counted r.line (lines_left r) _ _ is in
    fault_output r.line s.line (standing c.args.session.now) (unread r) (unread s) c.in-Err.at is c.next.ensures.after number
