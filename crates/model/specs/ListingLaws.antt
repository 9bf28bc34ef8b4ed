-- What counting a listing comes to. Assumes nothing.
use Rattle.std.specs.Prelude.{◌≡◌, ℕ, ◌<◌, ◌≤◌, length}
use Rattle.std.specs.List.{AllByRecursion}
use Rattle.plans.specs.Items.{Items, Lawful}
use Rattle.strategies.specs.Rows.{counted}
use Rattle.strategies.specs.declared.marks.Sign.{Sign}
use Rattle.strategies.specs.declared.marks.Mark.TheVariants.{Signed, Default}
use Rattle.model.specs.Model.{Model}
use Rattle.model.specs.RunLaws.{Standing}
use Rattle.model.specs.Question.{listing}
use Rattle.model.specs.Counted.{listed_lengths, of_grants, of_accounts}

-- the rows of a sign are counted by summing products over the standing grants
abbrev pub SignedRows : Type 0
SignedRows = (n : ℕ) (M : Model) (I : Items) (s o r d : ℕ) (sign : Sign) →
    counted (Signed sign) (listing n M I s o r) d ≡ of_grants n M.members M.grants (listed_lengths I o) s r sign d

-- the default marks are counted by summing over the accounts that they start from
abbrev pub DefaultRows : Type 0
DefaultRows = (n : ℕ) (M : Model) (I : Items) (s o r d : ℕ) →
    counted Default (listing n M I s o r) d ≡ of_accounts n M.members M.grants (listed_lengths I o) s r d

-- no row is farther than 14
abbrev pub NearRows : Type 0
NearRows = (n : ℕ) (M : Model) (I : Items) (s o r : ℕ) → AllByRecursion (λ row. row.distance < 15) (listing n M I s o r)

-- whatever calls can leave, at most 64 accounts and 512 grants: no listing has more rows than this
abbrev pub FewRows : Type 0
FewRows = (n capacity : ℕ) (M : Model) (I : Items) → n ≤ 64 → capacity ≤ 512 → Standing n capacity M → Lawful I → (s o r : ℕ) → s < n →
    length (listing n M I s o r) ≤ 104498155008
