-- What the counts of a sound table say of the end of a membership. Assumes nothing.
use Rattle.std.proofs.Common.{◌≡◌, ℕ, ◌+◌, ◌<◌, true, false, sym, ap, ◌∙◌, arith}
use Rattle.chains.specs.Chains.{Within, NoChain, strike, count}
use Rattle.chains.specs.Tests.{too_long, too_many}
use Rattle.chains.proofs.Limits.{short_acyclic, short_passes}
use Rattle.chains.proofs.Parts.{part_counts, part_short}
use Rattle.chains.proofs.Sets.{part_within, strike_part}
use Rattle.chains.proofs.Steps.{acyclic_free}
use Rattle.chains.proofs.Struck.{count_struck}
use Rattle.chains.proofs.Told.{many_no, many_none}
use Rattle.counts.specs.Rows.{through}
use Rattle.table.specs.Tables.{count_in, members_in}
use Rattle.table.specs.declared.tables.Table.{Table}
use Rattle.table.proofs.Sound.{at, is_short, through_past, within}

module _ (t : Table) (p c : ℕ) (hp : p < t.accounts) (hc : c < t.accounts) (stands : members_in t p c ≡ true) where
  pub back_free : NoChain (members_in t) c p
  back_free = acyclic_free (short_acyclic (is_short t)) stands

  pub count_left : (a s k : ℕ) → a < t.accounts → s < t.accounts → k < 8 →
      count_in t a s k ≡ count t.accounts (strike (members_in t) p c) a s k + through (count_in t a p) (count_in t c s) k
  count_left a s k ha hs hk =
      at t a s k ha hs hk
      ∙ count_struck t.accounts (members_in t) p c hc stands back_free k a s
      ∙ ap (λ (x : ℕ). count t.accounts (strike (members_in t) p c) a s k + x) (sym (through_past t p c a s k hp hc ha hs hk))

  pub left_within : Within t.accounts (strike (members_in t) p c)
  left_within = part_within t.accounts (strike (members_in t) p c) (members_in t) (strike_part (members_in t) p c) (within t)

  pub left_short : too_long t.accounts (strike (members_in t) p c) ≡ false
  left_short = short_passes t.accounts (strike (members_in t) p c) left_within (part_short (strike_part (members_in t) p c) (is_short t))

  pub left_few : too_many t.accounts (strike (members_in t) p c) ≡ false
  left_few = many_no t.accounts (strike (members_in t) p c) (λ a s k ha hs hk.
      let low = many_none t.accounts (members_in t) t.few a s k ha hs hk in
      let part = part_counts t.accounts (strike (members_in t) p c) (members_in t) (strike_part (members_in t) p c) k a s in
      omega arith)
