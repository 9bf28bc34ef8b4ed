-- What the type of the grants says of each of them, in one record. Assumes nothing.
use Rattle.std.proofs.Common.{◌≡◌, ℕ, List, [], ◌∷◌, ap, ◌∙◌, refl, take}
use Rattle.lists.specs.Lists.{some}
use Rattle.model.specs.Grants.{misfit, repeated}
use Rattle.model.specs.declared.grant.Grant.{Grant}
use Rattle.records.specs.Records.{KeptGrants}
use Rattle.records.specs.declared.grants.Grants.{Grants}

-- all grants are kept, for the accounts that they know
pub kept : (gs : Grants) → KeptGrants gs.accounts gs
kept gs = record { room = gs.room; fitting = gs.fitting; once = gs.once }

nothing : (m : ℕ) (xs : List Grant) → m ≡ 0 → take m xs ≡ []
nothing m xs e = ap (λ k. take k xs) e ∙ by xs
  where
    by : (xs : List Grant) → take 0 xs ≡ []
    by [] = refl
    by (x ∷ xs) = refl

-- where none stands, for any number of accounts
pub none_kept : (n : ℕ) (gs : Grants) → gs.standing ≡ 0 → KeptGrants n gs
unfolding repeated
none_kept n gs e =
    let none = nothing gs.standing gs.records.now e in
    record { room = gs.room; fitting = ap (some (misfit n)) none; once = ap repeated none }
