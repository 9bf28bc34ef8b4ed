-- What every call keeps of the model. Assumes nothing.
use Rattle.std.proofs.Common.{◌≡◌, ℕ, ◌<◌, Bool, true, false, cond, not, ltb, List, [], ◌∷◌, ◌++◌, length, Err, refl, arith}
use Rattle.std.proofs.lemmas.List.{length-append}
use Rattle.std.proofs.lemmas.Bool.{ltb-true, not-false, or_parts}
use Rattle.chains.specs.Chains.{add, strike}
use Rattle.chains.proofs.Held.{empty_sound, joined_sound, left_sound}
use Rattle.chains.proofs.Sets.{add_within}
use Rattle.chains.proofs.Table.{few_everywhere, none_counted, short_by_eight}
use Rattle.model.specs.declared.grant.Grant.{Grant}
use Rattle.model.specs.declared.refusal.Refusal.{Refusal}
use Rattle.model.specs.declared.call.Call.{Call}
use Rattle.model.specs.declared.call.Call.TheVariants.{Join, Leave, Give, Withdraw, Quick, Walked, Least}
use Rattle.model.specs.Refusals.{checks, where_accepted}
use Rattle.model.specs.Grants.{is_for, misfit, others, repeated, unknown}
use Rattle.model.specs.Model.{Model, give_checks, give_outcome, given, join_checks, join_outcome, joined, just_made, leave_checks, leave_outcome, left, withdraw_checks, withdraw_outcome, withdrawn}
use Rattle.model.specs.RunLaws.{Standing}
use Rattle.model.specs.Runs.{run, next}
use Rattle.model.proofs.Bounds.{kept_le}
use Rattle.model.proofs.Standing.{keep_none, repeated_keep, repeated_push}
use Rattle.chains.proofs.Some.{some_join}
use Rattle.chains.proofs.Told.{leads_none, long_none, many_none}

abbrev AllPassed : List (Bool × Refusal) → Type 0
AllPassed [] = Unit {0}
AllPassed (c ∷ cs) = (c.0 ≡ false) × AllPassed cs

-- what holds of the old state, and of the new one if all checks passed
accepted : (P : Model → Type 0) (new old : Model) (cs : List (Bool × Refusal)) → P old → (AllPassed cs → P new) → P (where_accepted (checks cs) new old)
accepted P new old [] h step = step tt
accepted P new old (c ∷ cs) h step = pick c.0 refl (λ (e : c.0 ≡ false). accepted P new old cs h (λ rest. step (e, rest)))
  where
    pick : (b : Bool) → c.0 ≡ b → (c.0 ≡ false → P (where_accepted (checks cs) new old)) → P (where_accepted (cond b (Err c.1) (checks cs)) new old)
    pick true e go = h
    pick false e go = go e

module _ (n capacity : ℕ) where
  start : Standing n capacity just_made
  unfolding repeated
  start = record { sound = empty_sound n; fitting = refl; once = refl; room = omega arith }

  known : (a : ℕ) → unknown n a ≡ false → a < n
  known a e = ltb-true a n (not-false (ltb a n) e)

  join_keeps : (M : Model) (p c : ℕ) → Standing n capacity M → Standing n capacity (joined n M p c)
  unfolding joined join_outcome
  join_keeps M p c h =
      accepted (Standing n capacity) (record { members = add M.members p c; grants = M.grants }) M (join_checks n M.members p c) h
      (λ passed.
      let E = M.members in
      let F = add E p c in
      let both = or_parts (unknown n p) (unknown n c) passed.0 in
      let hp = known p both.0 in
      let hc = known c both.1 in
      let sound = h.sound in
      let w = add_within n E p c hp hc sound.within in
      let short = short_by_eight n F w (long_none n F passed.1.1.1.0) in
      record {
        sound = joined_sound n E p c sound (record {
          group = hp;
          member = hc;
          free = none_counted n E sound.within sound.short c p (leads_none n E c p passed.1.0);
          new = passed.1.1.0;
          short = short;
          few = few_everywhere n F w short 99999 (omega arith) (many_none n F passed.1.1.1.1.0);
        });
        fitting = h.fitting;
        once = h.once;
        room = h.room;
      })

  leave_keeps : (M : Model) (p c : ℕ) → Standing n capacity M → Standing n capacity (left n M p c)
  unfolding left leave_outcome
  leave_keeps M p c h =
      accepted (Standing n capacity) (record { members = strike M.members p c; grants = M.grants }) M (leave_checks n M.members p c) h
      (λ passed. record { sound = left_sound n M.members p c h.sound; fitting = h.fitting; once = h.once; room = h.room })

  give_keeps : (M : Model) (g : Grant) → Standing n capacity M → Standing n capacity (given n capacity M g)
  unfolding given give_outcome
  give_keeps M g h =
      accepted (Standing n capacity) (record { members = M.members; grants = M.grants ++ (g ∷ []) }) M (give_checks n capacity M.grants g.account g.item g.right) h
      (λ passed.
      let new = passed.1.1.1.0 in
      let free = ltb-true (length M.grants) capacity (not-false (ltb (length M.grants) capacity) passed.1.1.1.1.0) in
      let long = length-append M.grants (g ∷ []) in
      record {
        sound = h.sound;
        fitting = let joined = some_join (misfit n) M.grants (g ∷ []) in let before = h.fitting in grind arith;
        once = repeated_push M.grants g h.once new;
        room = omega arith;
      })

  withdraw_keeps : (M : Model) (a i r : ℕ) → Standing n capacity M → Standing n capacity (withdrawn n M a i r)
  unfolding withdrawn withdraw_outcome
  withdraw_keeps M a i r h =
      accepted (Standing n capacity) (record { members = M.members; grants = others a i r M.grants }) M (withdraw_checks n M.grants a i r) h
      (λ passed.
      let test = λ (g : Grant). not (is_for a i r g) in
      let less = kept_le test M.grants in
      let most = h.room in
      record {
        sound = h.sound;
        fitting = keep_none (misfit n) test M.grants h.fitting;
        once = repeated_keep test M.grants h.once;
        room = omega arith;
      })

  next_keeps : (M : Model) (c : Call) → Standing n capacity M → Standing n capacity (next n capacity M c)
  next_keeps M (Join p c) h = join_keeps M p c h
  next_keeps M (Leave p c) h = leave_keeps M p c h
  next_keeps M (Give g) h = give_keeps M g h
  next_keeps M (Withdraw x) h = withdraw_keeps M x.account x.item x.right h
  next_keeps M (Quick x t) h = h
  next_keeps M (Walked x t) h = h
  next_keeps M (Least x t) h = h

  run_keeps : (M : Model) (calls : List Call) → Standing n capacity M → Standing n capacity (run n capacity M calls)
  unfolding run
  run_keeps M [] h = h
  run_keeps M (c ∷ calls) h = run_keeps (next n capacity M c) calls (next_keeps M c h)

  pub runs_standing : (calls : List Call) → Standing n capacity (run n capacity just_made calls)
  runs_standing calls = run_keeps just_made calls start
