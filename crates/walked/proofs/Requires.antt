-- What a table and grants that fit give to the calls below. Assumes nothing.
use Rattle.std.proofs.Common.{◌≡◌, ℕ, ◌<◌, ◌≤◌, false, List, Option, length, subst, arith}
use Rattle.std.proofs.ByRecursion.{All-weaker}
use Rattle.lists.specs.Lists.{some}
use Rattle.chains.specs.Table.{shown_members}
use Rattle.chains.proofs.Told.{many_none}
use Rattle.plans.specs.Items.{Items, Lawful}
use Rattle.walk.specs.Meaning.{ArrivalsCounted, Nearest}
use Rattle.table.specs.Tables.{members_in}
use Rattle.table.specs.declared.tables.Table.{Table}
use Rattle.model.specs.Grants.{misfit}
use Rattle.model.specs.Question.{listing}
use Rattle.model.specs.declared.grant.Grant.{Grant}
use Rattle.model.proofs.Bounds.{fit_accounts, listed_few_in}
use Rattle.walked.specs.Asked.{standing}
use Rattle.walked.specs.Starts.{InRange}

module _ (t : Table) where
  pub in_range : (grants : List Grant) → some (misfit t.accounts) grants ≡ false → InRange grants
  in_range grants fitting =
      let few = t.holds.few in
      All-weaker (λ g. g.account < t.accounts) (λ g. g.account < 64) (λ g l. omega arith) grants (fit_accounts t.accounts grants fitting)

  -- what is found in the accounts and counts that the table tells of
  pub told_rows : (n : ℕ) (cs : List ℕ) → n ≡ t.accounts → cs ≡ t.counts.now → (start : ℕ → ℕ → ℕ) (s : ℕ) (r : ℕ → ℕ) →
      ArrivalsCounted n (shown_members n cs) start s r → ArrivalsCounted t.accounts (members_in t) start s r
  told_rows n cs accounts counts start s r h =
      subst (λ m. ArrivalsCounted m (shown_members m t.counts.now) start s r) accounts
      (subst (λ (xs : List ℕ). ArrivalsCounted n (shown_members n xs) start s r) counts h)

  pub told_nearest : (n : ℕ) (cs : List ℕ) → n ≡ t.accounts → cs ≡ t.counts.now → (start : ℕ → Option ℕ) (s : ℕ) (x : Option ℕ) →
      Nearest (shown_members n cs) start s x → Nearest (members_in t) start s x
  told_nearest n cs accounts counts start s x h =
      subst (λ m. Nearest (shown_members m t.counts.now) start s x) accounts
      (subst (λ (xs : List ℕ). Nearest (shown_members n xs) start s x) counts h)

  -- no listing has more rows than a count can hold
  pub few_listed : (grants : List Grant) → some (misfit t.accounts) grants ≡ false → length grants ≤ 512 → (I : Items) → Lawful I → (s o r : ℕ) → s < t.accounts →
      length (listing t.accounts (standing t grants) I s o r) ≤ 1000000000000
  few_listed grants fitting room I lawful s o r known =
      let n = t.accounts in
      let most = listed_few_in n (standing t grants) I lawful s o r known t.holds.few room (fit_accounts n grants fitting)
      (λ a b k la lb lk. many_none n (members_in t) t.few a b k la lb lk) in
      omega arith
