use Rattle.std.proofs.Common.{◌≡◌, ℕ, ◌+◌, ◌<◌, [], ◌∷◌, ◌++◌, length, get_or, take, drop, sym, ap, ◌∙◌, arith}
use Rattle.std.proofs.lemmas.List.{drop-set-lt, get_or-take, length-take-le, take_more, take_more_set}
use Rattle.chains.specs.Table.{size}
use Rattle.model.specs.Runs.{next, reply, run, run_replies}
use Rattle.model.specs.declared.call.Call.{Call}
use Rattle.book.specs.Books.{accounts_of, capacity_in, counts_in, records_in, shown}
use Rattle.runs.specs.Records.{record_run, record_step}
use Rattle.runs.proofs.Running.{behind_more, records_push, replies_push, run_push}
use Rattle.runs.proofs.calls.run_calls.Goals as goal

pub loop-i-preserved : goal.loop-i-preserved
loop-i-preserved g c =
    let b = c.args.book.now in let n = accounts_of b in let most = capacity_in b in let M = shown b in
    let I = g.P.Plan.meaning c.args.plan.now in
    let i = c.loop-i.i in
    let calls = c.args.calls.now in
    let before = c.loop-i.invariant in
    let step = c.step.ensures in
    let call : Call = c.call-item.result in
    let many = c.min-many.result in
    let long = length-take-le many calls (omega arith) in
    let inside : i < many = omega (arith, c.loop-i-test.true) in
    let same : get_or calls i call ≡ call = sym (c.call-item.is ∙ get_or-take many calls i call inside) in
    let one_more : take (i + 1) calls ≡ take i calls ++ call ∷ [] =
    take_more calls i call (omega arith) ∙ ap (λ (x : Call). take i calls ++ x ∷ []) same in
    let fits : i < length c.loop-i.replies = omega arith in
    record {
      accounts = step.accounts ∙ before.accounts;
      capacity = step.capacity ∙ before.capacity;
      after =
          step.after ∙ (λ j. next (before.accounts j) (before.capacity j) (before.after j) call)
          ∙ sym (ap (run n most M) one_more ∙ run_push n most M (take i calls) call);
      answers =
          take_more_set c.loop-i.replies i c.step.result fits
          ∙ (λ j. before.answers j ++ (step.answer ∙ (λ k. reply (before.accounts k) (before.capacity k) I (before.after k) call)) j ∷ [])
          ∙ sym (ap (run_replies n most I M) one_more ∙ replies_push n most I M (take i calls) call);
      rest = drop-set-lt (i + 1) c.loop-i.replies i c.step.result (omega arith) ∙ behind_more c.loop-i.replies c.args.replies.now i before.rest;
      records =
          step.records ∙ (λ j. record_step (before.accounts j) (before.capacity j) (before.after j) (before.records j) call)
          ∙ sym (ap (record_run n most M (records_in b)) one_more ∙ records_push n most M (records_in b) (take i calls) call);
      behind =
          ap (λ (m : ℕ). drop (size m) (counts_in c.step.new.book)) (sym before.accounts) ∙ step.behind
          ∙ ap (λ (m : ℕ). drop (size m) (counts_in c.loop-i.book)) before.accounts ∙ before.behind;
    }
