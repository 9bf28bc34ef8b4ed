use Rattle.std.proofs.Common.{◌≡◌, ℕ, ◌<◌, refl, arith, rules}
use Rattle.chains.specs.Chains.{count, strike}
use Rattle.chains.specs.Table.{entry}
use Rattle.table.specs.Tables.{members_in}
use Rattle.table.proofs.Leaves.{back_free, count_left, left_few, left_short, left_within}
use Rattle.table.proofs.Sound.{free_counts, few_with, is_low, laid_with, short_with}
use Rattle.chains.proofs.Laid.{behind_same}
use Rattle.chains.proofs.Shows.{shown_is}
use Rattle.table.proofs.tables.Table.strike.Goals as goal

pub change_all-requires : goal.change_all-requires
change_all-requires c =
    let t = c.args.self.now in
    let p = c.args.p in let m = c.args.c in
    record {
      table = search rules;
      group = search rules;
      member = search rules;
      low = is_low t;
      no_circle = free_counts t m p c.requires.member c.requires.group (back_free t p m c.requires.group c.requires.member c.requires.stands);
      allowed = λ a s k ha hs hk.
          let left = count_left t p m c.requires.group c.requires.member c.requires.stands a s k ha hs hk in
          omega arith;
    }

pub invariant_of-self : goal.invariant_of-self
invariant_of-self c =
    let t = c.args.self.now in let n = t.accounts in let p = c.args.p in let m = c.args.c in
    let hp = c.requires.group in let hm = c.requires.member in let stands = c.requires.stands in
    let F = strike (members_in t) p m in let xs = c.change_all.new.counts in
    let w = left_within t p m hp hm stands in
    let each : (a s k : ℕ) → a < n → s < n → k < 8 → entry xs n a s k ≡ count n F a s k =
    λ a s k ha hs hk.
    let sum = c.change_all.ensures.sums a s k ha hs hk in
    let left = count_left t p m hp hm stands a s k ha hs hk in
    omega arith in
    record {
      holds = search rules;
      laid = laid_with n xs F w each (search rules);
      short = short_with n xs F w each (left_short t p m hp hm stands);
      few = few_with n xs F w each (left_few t p m hp hm stands);
    }

pub returns : goal.returns
returns c =
    let t = c.args.self.now in let n = t.accounts in let p = c.args.p in let m = c.args.c in
    let hp = c.requires.group in let hm = c.requires.member in let stands = c.requires.stands in
    record {
      same = refl;
      after = shown_is n (strike (members_in t) p m) c.change_all.new.counts (left_within t p m hp hm stands) (λ a s k ha hs hk.
          let sum = c.change_all.ensures.sums a s k ha hs hk in
          let left = count_left t p m hp hm stands a s k ha hs hk in
          omega arith);
      memory = behind_same _ _ _ (search rules) c.change_all.ensures.behind;
    }
