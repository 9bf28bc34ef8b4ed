use Rattle.std.proofs.Common.{ℕ, ◌<◌, ◌≤◌, refl, arith, rules}
use Rattle.chains.specs.Table.{entry}
use Rattle.chains.proofs.Ranges.{any_from_range}
use Rattle.counts.specs.Rows.{count_after}
use Rattle.counts.proofs.Rows.{through_no_up}
use Rattle.counts.proofs.reading.Counts.line_passes.Goals as goal

pub returns-then-leads_by : goal.returns-then-leads_by
returns-then-leads_by c =
    let after = count_after c.args.self.numbers.now c.args.self.accounts c.args.p c.args.c c.args.a in
    let told = any_from_range _ _ _ c.any.result (λ s. (k : ℕ) × (k < 8) × (99999 < after s k)) (λ s. (k : ℕ) → k < 8 → after s k ≤ 99999)
    c.any.ensures.ran (λ s q h. search rules) (λ s q h. search rules) in
    record {
      yes = λ e. let (s, low, high, w) = told.0 e in (s, w.0, high, w.1, w.2);
      no = λ e s hs. told.1 e s (omega arith) hs;
    }

pub returns-else-leads_by-clause-no : goal.returns-else-leads_by-clause-no
returns-else-leads_by-clause-no c =
    let t = c.args.self.numbers.now in let n = c.args.self.accounts in
    λ e s hs k h. omega (
      arith,
      c.requires.low c.args.a s k c.requires.top hs h,
      through_no_up (entry t n c.args.a c.args.p) (entry t n c.args.c s) k
          (λ i l. c.if-leads_by.ensures.no refl i (omega arith) (omega arith)),
    )
