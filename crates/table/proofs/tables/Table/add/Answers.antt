use Rattle.std.proofs.Common.{◌≡◌, ℕ, ◌<◌, refl, ◌∙◌, arith, rules}
use Rattle.chains.specs.Chains.{add, count}
use Rattle.chains.specs.Table.{entry}
use Rattle.chains.proofs.Sets.{add_within}
use Rattle.table.specs.Tables.{members_in}
use Rattle.table.proofs.Joins.{count_then}
use Rattle.table.proofs.Sound.{free_chain, free_counts, few_with, is_low, laid_with, short_with, within}
use Rattle.chains.proofs.Laid.{behind_same}
use Rattle.chains.proofs.Shows.{shown_is}
use Rattle.chains.proofs.Told.{many_none}
use Rattle.table.proofs.tables.Table.add.Goals as goal

pub change_all-requires : goal.change_all-requires
change_all-requires c =
    let t = c.args.self.now in let n = t.accounts in
    let p = c.args.p in let m = c.args.c in
    record {
      table = search rules;
      group = search rules;
      member = search rules;
      low = is_low t;
      no_circle = free_counts t m p c.requires.member c.requires.group (free_chain t m p c.requires.free);
      allowed = λ a s k ha hs hk.
          let same = count_then t p m c.requires.group c.requires.member c.requires.free c.requires.new a s k ha hs hk in
          let low = many_none n (add (members_in t) p m) c.requires.few a s k ha hs hk in
          omega arith;
    }

pub invariant_of-self : goal.invariant_of-self
invariant_of-self c =
    let t = c.args.self.now in let n = t.accounts in let p = c.args.p in let m = c.args.c in
    let F = add (members_in t) p m in let xs = c.change_all.new.counts in
    let w = add_within n (members_in t) p m c.requires.group c.requires.member (within t) in
    let each : (a s k : ℕ) → a < n → s < n → k < 8 → entry xs n a s k ≡ count n F a s k =
    λ a s k ha hs hk. c.change_all.ensures.sums a s k ha hs hk
    ∙ count_then t p m c.requires.group c.requires.member c.requires.free c.requires.new a s k ha hs hk in
    record {
      holds = search rules;
      laid = laid_with n xs F w each (search rules);
      short = short_with n xs F w each c.requires.short;
      few = few_with n xs F w each c.requires.few;
    }

pub returns : goal.returns
returns c =
    let t = c.args.self.now in let n = t.accounts in let p = c.args.p in let m = c.args.c in
    record {
      same = refl;
      after = shown_is n (add (members_in t) p m) c.change_all.new.counts (add_within n (members_in t) p m c.requires.group c.requires.member (within t))
          (λ a s k ha hs hk. c.change_all.ensures.sums a s k ha hs hk
          ∙ count_then t p m c.requires.group c.requires.member c.requires.free c.requires.new a s k ha hs hk);
      memory = behind_same _ _ _ (search rules) c.change_all.ensures.behind;
    }
