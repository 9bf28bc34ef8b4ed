-- Default marks are given account by account. Assumes nothing.
use Rattle.std.proofs.Common.{◌≡◌, ℕ, ◌+◌, ◌<◌, Bool, true, false, not, ◌&&◌, List, length, get_or, set, sym, refl, ap, ◌∙◌, arith, length-set, below_more}
use Rattle.std.proofs.lemmas.List.{get_or-set_same, get_or-set_other}
use Rattle.std.proofs.lemmas.Bool.{cond-true, cond-false}
use Rattle.chains.specs.Chains.{Members}
use Rattle.chains.specs.Tests.{groupless}
use Rattle.strategies.specs.declared.rows.Rows.{Rows}
use Rattle.walk.specs.Counts.{no_rows}
use Rattle.walked.specs.Taking.{start_at}
use Rattle.walked.specs.Defaults.{marked, gives_default, start_marked, Marking}
use Rattle.walked.specs.declared.starts.Starts.{Starts}

-- 64 rows, and 64 accounts that hold a grant that counts or none
pub record Full (x : Starts) : Type 0 where
  pub rows : length x.rows ≡ 64
  pub held : length x.held ≡ 64

-- the rows of account m replaced
abbrev pub put : Starts → ℕ → Rows → Starts
put y m v = record { rows = set y.rows m v; held = y.held }

module _ (n : ℕ) (E : Members) (x : Starts) where
  pub mark_none : Full x → Marking n E x 0 x
  mark_none full = record { rows = full.rows; held = refl; before = λ a l. absurd (omega arith); after = λ a l. refl }

  -- what is read while marks are given is what stood before
  same_holds : (m : ℕ) (y : Starts) → Marking n E x m y → gives_default n E y m ≡ gives_default n E x m
  same_holds m y so_far = ap (λ (held : List Bool). groupless n E m && not (get_or held m false)) so_far.held

  pub mark_given : (m : ℕ) (y : Starts) → m < 64 → gives_default n E y m ≡ true → Marking n E x m y →
      Marking n E x (m + 1) (put y m (marked (start_at y m)))
  mark_given m y within gives so_far = record {
    rows = length-set y.rows m (marked (start_at y m)) ∙ so_far.rows;
    held = so_far.held;
    before = below_more (λ a. get_or (set y.rows m (marked (start_at y m))) a no_rows ≡ start_marked n E x a) m
        (λ a l. get_or-set_other y.rows m a (marked (start_at y m)) no_rows (omega arith) ∙ so_far.before a l)
        (get_or-set_same y.rows m (marked (start_at y m)) no_rows (omega (arith, so_far.rows))
        ∙ ap marked (so_far.after m (omega arith))
        ∙ sym (cond-true (gives_default n E x m) (marked (start_at x m)) (start_at x m) (sym (same_holds m y so_far) ∙ gives)));
    after = λ a l. get_or-set_other y.rows m a (marked (start_at y m)) no_rows (omega arith) ∙ so_far.after a (omega arith);
  }

  pub mark_passed : (m : ℕ) (y : Starts) → gives_default n E y m ≡ false → Marking n E x m y → Marking n E x (m + 1) y
  mark_passed m y passes so_far = record {
    rows = so_far.rows;
    held = so_far.held;
    before = below_more (λ a. start_at y a ≡ start_marked n E x a) m so_far.before
        (so_far.after m (omega arith)
        ∙ sym (cond-false (gives_default n E x m) (marked (start_at x m)) (start_at x m) (sym (same_holds m y so_far) ∙ passes)));
    after = λ a l. so_far.after a (omega arith);
  }
