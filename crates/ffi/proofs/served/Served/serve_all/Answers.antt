use Rattle.std.proofs.Common.{◌<◌, length, ◌∙◌, arith}
use Rattle.std.proofs.lemmas.Grind.{common_steps}
use Rattle.std.proofs.lemmas.List.{get_or-take, length-take-le, take_more_set}
use Rattle.ffi.proofs.Running.{blank, one_more}
use Rattle.ffi.proofs.served.Served.serve_all.Goals as goal

pub loop-i-preserved : goal.loop-i-preserved
loop-i-preserved c =
    let inv = c.loop-i.invariant in
    let served = c.serve.ensures in
    let calls = c.args.calls.now in
    let many = c.min-many.result in
    let long = length-take-le many calls (omega arith) in
    let inside : c.loop-i.i < many = omega (arith, c.loop-i-test.true) in
    let within : c.loop-i.i < length calls = omega arith in
    let same = get_or-take many calls c.loop-i.i blank inside in
    record {
      accounts = served.accounts ∙ inv.accounts;
      capacity = served.capacity ∙ inv.capacity;
      stands = grind (arith, one_more);
      told = grind (arith, one_more, take_more_set);
      behind = grind (arith, common_steps);
    }
