use Rattle.std.proofs.Common.{◌≡◌, ◌<◌, rules}
use Rattle.chains.proofs.Ranges.{any_from_range}
use Rattle.counts.specs.Views.{count_of}
use Rattle.counts.proofs.reading.Counts.leads_by.Goals as goal

pub returns : goal.returns
returns c =
    let x = count_of c.args.self c.args.a c.args.s in
    let told = any_from_range _ _ _ c.any.result (λ k. 0 < x k) (λ k. x k ≡ 0) c.any.ensures.ran (λ k q h. search rules) (λ k q h. search rules) in
    record { yes = told.0; no = told.1 }
