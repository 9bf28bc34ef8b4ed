use Rattle.std.proofs.Common.{ℕ, ◌<◌, ◌≤◌, arith, rules}
use Rattle.chains.proofs.Ranges.{any_from_range}
use Rattle.counts.specs.Rows.{count_after}
use Rattle.counts.proofs.reading.Counts.passes.Goals as goal

pub returns : goal.returns
returns c =
    let n = c.args.self.accounts in
    let after = count_after c.args.self.numbers.now n c.args.p c.args.c in
    let told = any_from_range _ _ _ c.any.result (λ a. (s : ℕ) × (k : ℕ) × (s < n) × (k < 8) × (99999 < after a s k))
    (λ a. (s : ℕ) → s < n → (k : ℕ) → k < 8 → after a s k ≤ 99999)
    c.any.ensures.ran (λ a q h. search rules) (λ a q h. search rules) in
    record {
      yes = λ e. let (a, low, high, w) = told.0 e in
          record { top = a; end = w.0; long = w.1; top_in = high; end_in = w.2; long_in = w.3; over = w.4 };
      no = λ e a ha. told.1 e a (omega arith) ha;
    }
