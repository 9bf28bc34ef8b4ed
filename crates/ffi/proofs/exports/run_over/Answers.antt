use Rattle.std.proofs.Common.{◌≡◌, min, List, ◌++◌, map, length, take, drop, sym, ap, ◌∙◌, ap₂, arith}
use Rattle.std.proofs.lemmas.Grind.{common_steps}
use Rattle.std.proofs.lemmas.List.{take-append-drop}
use Rattle.std.proofs.lemmas.Slice.Zip.{AllZip-map}
use Rattle.model.specs.declared.grant.Grant.{Grant}
use Rattle.ffi.specs.declared.plain.GrantRecord.{GrantRecord}
use Rattle.ffi.specs.Replies.{grant_record}
use Rattle.ffi.specs.Runs.{at_first, run}
use Rattle.ffi.proofs.exports.run_over.Goals as goal

pub returns-clause-records : goal.returns-clause-records
returns-clause-records c =
    let grants = c.grants-standing.result.now in
    let many = length grants in
    let to = c.write_first.new.to in
    let calls = take c.serve_all-made.result c.args.calls.now in
    let stand : grants ≡ (run c.accounts-accounts.result (min 512 (length c.args.records.now)) at_first calls).model.grants = grind (arith, common_steps) in
    sym (take-append-drop many to)
    ∙ ap₂ (λ (xs ys : List GrantRecord). xs ++ ys) (AllZip-map grant_record grants (take many to) c.write_first.ensures.written) c.write_first.ensures.behind
    ∙ ap (λ (gs : List Grant). map grant_record gs ++ drop many c.args.records.now) stand
