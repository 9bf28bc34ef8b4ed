use Rattle.std.proofs.Common.{◌≡◌, ℕ, zero, suc, ◌+◌, ◌<◌, min, eqb, get_or, set, sym, ap, ◌∙◌, arith, get_or-set_same, get_or-set_other}
use Rattle.std.proofs.lemmas.Bool.{ne_eqb, cond-false}
use Rattle.strategies.specs.declared.rows.Row.{Row}
use Rattle.walk.specs.Counts.{count_at, limited}
use Rattle.walk.specs.RowLaws.{same_row, count_of}
use Rattle.walked.specs.Defaults.{one_at_0, one_mark}
use Rattle.walked.proofs.defaults.one_mark.Goals as goal

-- a row of nothing with one more at distance 0
one_more : (x y : Row) → ((d : ℕ) → count_at x d ≡ 0) → y.counts ≡ set x.counts 0 (min (count_at x 0 + 1) 1000000000000) → y ≡ one_mark
one_more x y none added = same_row y one_mark at
  where
    at : (d : ℕ) → d < 15 → count_at y d ≡ count_at one_mark d
    at zero h =
        let one = none 0 in
        ap (λ (cs : _). get_or cs 0 0) added ∙ get_or-set_same x.counts 0 (min (count_at x 0 + 1) 1000000000000) 0 (omega (arith, x.long))
        ∙ omega arith ∙ sym (count_of one_at_0 0 h)
    at (suc d) h =
        let last : 0 ≡ limited (one_at_0 (suc d)) = ap limited (sym (cond-false (eqb (suc d) 0) 1 0 (ne_eqb (suc d) 0 (λ q. omega arith)))) in
        ap (λ (cs : _). get_or cs (suc d) 0) added ∙ get_or-set_other x.counts 0 (suc d) (min (count_at x 0 + 1) 1000000000000) 0 (λ q. omega arith)
        ∙ none (suc d) ∙ last ∙ sym (count_of one_at_0 (suc d) h)

pub returns : goal.returns
returns c = one_more c.none-row.result c.add.new.self c.none-row.ensures c.add.ensures
