use Rattle.std.proofs.Common.{◌≡◌, ℕ, ◌<◌, ◌≤◌, arith, rules}
use Rattle.chains.proofs.Ranges.{any_from_range}
use Rattle.counts.specs.Views.{count_of}
use Rattle.counts.proofs.reading.Counts.reached_by.Goals as goal

pub returns-clause-no : goal.returns-clause-no
returns-clause-no c =
    let told = any_from_range _ _ _ c.any.result (λ a. Unit {0}) (λ a. (k : ℕ) → c.args.least ≤ k → k < 8 → count_of c.args.self a c.args.p k ≡ 0)
    c.any.ensures.ran (λ a q h. tt) (λ a q h. search rules) in
    λ e a l. told.1 e a (omega arith) l
