-- One more call of a run. Assumes nothing.
use Rattle.std.proofs.Common.{◌≡◌, ℕ, ◌+◌, List, [], ◌∷◌, ◌++◌, take, drop, sym, refl, ap, ◌∙◌}
use Rattle.std.proofs.lemmas.List.{drop-drop}
use Rattle.plans.specs.Items.{Items}
use Rattle.model.specs.Model.{Model}
use Rattle.model.specs.Runs.{next, reply, run, run_replies}
use Rattle.model.specs.declared.call.Call.{Call}
use Rattle.model.specs.declared.call.Reply.{Reply}
use Rattle.model.specs.declared.grant.Grant.{Grant}
use Rattle.runs.specs.Records.{record_run, record_step}

pub run_push : (n capacity : ℕ) (M : Model) (cs : List Call) (c : Call) → run n capacity M (cs ++ c ∷ []) ≡ next n capacity (run n capacity M cs) c
unfolding run
run_push n capacity M [] c = refl
run_push n capacity M (d ∷ cs) c = run_push n capacity (next n capacity M d) cs c

pub replies_push : (n capacity : ℕ) (I : Items) (M : Model) (cs : List Call) (c : Call) →
    run_replies n capacity I M (cs ++ c ∷ []) ≡ run_replies n capacity I M cs ++ reply n capacity I (run n capacity M cs) c ∷ []
unfolding run run_replies
replies_push n capacity I M [] c = refl
replies_push n capacity I M (d ∷ cs) c = ap (λ (rs : List Reply). reply n capacity I M d ∷ rs) (replies_push n capacity I (next n capacity M d) cs c)

pub records_push : (n capacity : ℕ) (M : Model) (gs : List Grant) (cs : List Call) (c : Call) →
    record_run n capacity M gs (cs ++ c ∷ []) ≡ record_step n capacity (run n capacity M cs) (record_run n capacity M gs cs) c
unfolding run record_run
records_push n capacity M gs [] c = refl
records_push n capacity M gs (d ∷ cs) c = records_push n capacity (next n capacity M d) (record_step n capacity M gs d) cs c

-- before the first call
pub take_none : {X : Type 0} (xs : List X) → take 0 xs ≡ []
take_none [] = refl
take_none (x ∷ xs) = refl

-- lists that are the same from a place on are the same from the next on
pub behind_more : {X : Type 0} (xs ys : List X) (i : ℕ) → drop i xs ≡ drop i ys → drop (i + 1) xs ≡ drop (i + 1) ys
behind_more {X} xs ys i e = sym (drop-drop 1 i xs) ∙ ap (λ (zs : List X). drop 1 zs) e ∙ drop-drop 1 i ys
