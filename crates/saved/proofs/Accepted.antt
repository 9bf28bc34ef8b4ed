-- A membership that can be joined is not refused, and a grant that fits is not either. Assumes nothing.
use Rattle.std.proofs.Common.{◌≡◌, ℕ, ◌<◌, false, length, arith, Ok, Err, Result, OnErr}
use Rattle.std.proofs.lemmas.Bool.{false_from_ne_true}
use Rattle.std.proofs.lemmas.Bool.Decides.{nat_tests}
use Rattle.lists.specs.Lists.{some}
use Rattle.chains.specs.Chains.{Joinable, Sound, add}
use Rattle.chains.specs.Tests.{leads}
use Rattle.chains.proofs.Held.{joined_sound}
use Rattle.chains.proofs.Limits.{leads_exactly, sound_by_tests}
use Rattle.model.specs.Grants.{is_for, misfit}
use Rattle.model.specs.Model.{Model, give_outcome, join_outcome}
use Rattle.model.specs.declared.grant.Grant.{Grant}

pub join_accepted : (n : ℕ) (M : Model) (p c : ℕ) → Sound n M.members → Joinable n M.members p c → join_outcome n M p c ≡ Ok tt
unfolding join_outcome
join_accepted n M p c sound can =
    let more = joined_sound n M.members p c sound can in
    let passed = (sound_by_tests n (add M.members p c) more.within).0 more in
    let free : leads n M.members c p ≡ false = false_from_ne_true (leads n M.members c p) (λ e.
    let chain = (leads_exactly n M.members sound.within sound.short c p).0 e in
    can.free chain.0 chain.1) in
    grind (arith, nat_tests)

pub give_accepted : (n capacity : ℕ) (M : Model) (g : Grant) → misfit n g ≡ false → some (is_for g.account g.item g.right) M.grants ≡ false →
    length M.grants < capacity → give_outcome n capacity M g.account g.item g.right ≡ Ok tt
unfolding give_outcome
give_accepted n capacity M g fits new room = grind (arith, nat_tests)

-- what holds in any case holds of an error
pub on_err : {A E : Type 0} (r : Result A E) (P : Type 0) → P → OnErr r P
on_err (Ok x) P p = tt
on_err (Err e) P p = p
