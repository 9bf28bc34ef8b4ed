use Rattle.std.proofs.Common.{◌≡◌, ℕ, ◌<◌, ◌∙◌, rules}
use Rattle.chains.specs.Chains.{count, no_members}
use Rattle.chains.specs.Table.{entry}
use Rattle.chains.proofs.Held.{empty_sound}
use Rattle.chains.proofs.Limits.{short_passes}
use Rattle.table.proofs.Sound.{alone_counts, few_with, laid_with, short_with, sound_table}
use Rattle.chains.proofs.Laid.{behind_same}
use Rattle.chains.proofs.Shows.{shown_is}
use Rattle.chains.proofs.Told.{many_no}
use Rattle.table.proofs.tables.Table.make.Goals as goal

pub invariant_of-result : goal.invariant_of-result
invariant_of-result c =
    let n = c.largest-accounts.result in let xs = c.clear.new.counts in
    let empty = empty_sound n in
    let each : (a s k : ℕ) → a < n → s < n → k < 8 → entry xs n a s k ≡ count n no_members a s k =
    λ a s k ha hs hk. c.clear.ensures.within a s k ha hs hk ∙ alone_counts n a s k in
    record {
      holds = search rules;
      laid = laid_with n xs no_members empty.within each (search rules);
      short = short_with n xs no_members empty.within each (short_passes n no_members empty.within empty.short);
      few = few_with n xs no_members empty.within each (many_no n no_members (λ a s k ha hs hk. empty.few a s k));
    }

pub returns-clause-after : goal.returns-clause-after
returns-clause-after c =
    let n = c.largest-accounts.result in
    shown_is n no_members c.clear.new.counts (empty_sound n).within (λ a s k ha hs hk. c.clear.ensures.within a s k ha hs hk ∙ alone_counts n a s k)

pub returns-clause-memory : goal.returns-clause-memory
returns-clause-memory c = behind_same _ _ _ (search rules) c.clear.ensures.behind

pub returns-clause-sound : goal.returns-clause-sound
returns-clause-sound c = sound_table _
