-- A join is refused as a circle exactly where there would be one. Assumes nothing.
use Rattle.std.proofs.Common.{◌≡◌, ℕ, ◌<◌, Bool, true, false, ◌||◌, ltb, [], ◌∷◌, Err, sym, refl, ◌∙◌, arith}
use Rattle.std.proofs.lemmas.Bool.{lt-ltb, ltb-true, not-false, not_from_true, or_from, or_parts}
use Rattle.chains.specs.Chains.{Members, Chain, Short, Within, add}
use Rattle.chains.specs.Tests.{leads, too_long, too_many}
use Rattle.chains.proofs.Listing.{counted_is_chain, chain_is_counted}
use Rattle.chains.proofs.Told.{leads_found, leads_yes}
use Rattle.model.specs.declared.refusal.Refusal.TheVariants.{UnknownAccount, Circle, MemberStands, ChainTooLong, CountTooLarge}
use Rattle.model.specs.Refusals.{Outcome, checks}
use Rattle.model.specs.Grants.{unknown}
use Rattle.model.specs.Model.{join_checks, join_outcome, just_made}
use Rattle.model.specs.Runs.{run}
use Rattle.model.specs.RunLaws.{CircleExactly, CirclesInRuns}
use Rattle.model.proofs.Lasting.{runs_standing}

-- of five checks in this order, the second is the first to fail
second_fails : (u l x y z : Bool) →
    checks ((u, UnknownAccount) ∷ (l, Circle) ∷ (x, MemberStands) ∷ (y, ChainTooLong) ∷ (z, CountTooLarge) ∷ []) ≡ Err Circle → (u ≡ false) × (l ≡ true)
second_fails u l x y z e = grind arith

second_found : (u l x y z : Bool) → u ≡ false → l ≡ true →
    checks ((u, UnknownAccount) ∷ (l, Circle) ∷ (x, MemberStands) ∷ (y, ChainTooLong) ∷ (z, CountTooLarge) ∷ []) ≡ Err Circle
second_found u l x y z e f = grind arith

module _ (n : ℕ) (E : Members) (w : Within n E) (short : Short E) (p c : ℕ) (r : Outcome) (e : r ≡ checks (join_checks n E p c)) where
  there : r ≡ Err Circle → (p < n) × (c < n) × ((k : ℕ) × Chain E c k p)
  there h =
      let both = second_fails (unknown n p || unknown n c) (leads n E c p) (E p c) (too_long n (add E p c)) (too_many n (add E p c)) (sym e ∙ h) in
      let known = or_parts (unknown n p) (unknown n c) both.0 in
      let found = leads_found n E c p both.1 in
      (ltb-true p n (not-false (ltb p n) known.0), ltb-true c n (not-false (ltb c n) known.1), (found.0, counted_is_chain n E c p found.0 found.2))

  back : (p < n) × (c < n) × ((k : ℕ) × Chain E c k p) → r ≡ Err Circle
  back (hp, hc, (k, d)) =
      e
      ∙ second_found (unknown n p || unknown n c) (leads n E c p) (E p c) (too_long n (add E p c)) (too_many n (add E p c))
      (or_from (unknown n p) (unknown n c) (not_from_true (ltb p n) (lt-ltb p n hp)) (not_from_true (ltb c n) (lt-ltb c n hc)))
      (leads_yes n E c p k (short c p k d) (chain_is_counted n E w d))

  pub circle_in : CircleExactly n E p c r
  circle_in = (there, back)

-- wherever a run has led
pub circles_in_runs : CirclesInRuns
unfolding join_outcome
circles_in_runs n capacity calls p c =
    let M = run n capacity just_made calls in
    let sound = (runs_standing n capacity calls).sound in
    circle_in n M.members sound.within sound.short p c (join_outcome n M p c) refl
