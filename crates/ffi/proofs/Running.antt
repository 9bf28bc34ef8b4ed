-- One more record of a run. Assumes nothing.
use Rattle.std.proofs.Common.{◌≡◌, ℕ, ◌+◌, ◌<◌, List, [], ◌∷◌, ◌++◌, length, get_or, take, sym, refl, ap, ◌∙◌, ap₂}
use Rattle.std.proofs.lemmas.List.{take_more}
use Rattle.runs.proofs.Running.{take_none}
use Rattle.ffi.specs.declared.plain.CallRecord.{CallRecord}
use Rattle.ffi.specs.declared.plain.ReplyRecord.{ReplyRecord}
use Rattle.ffi.specs.Requests.{request_of}
use Rattle.ffi.specs.Runs.{Standing, after, all_replies, reply_to, run}

run_push : (n capacity : ℕ) (S : Standing) (cs : List CallRecord) (c : CallRecord) →
    run n capacity S (cs ++ c ∷ []) ≡ after n capacity (run n capacity S cs) (request_of c)
unfolding run
run_push n capacity S [] c = refl
run_push n capacity S (d ∷ cs) c = run_push n capacity (after n capacity S (request_of d)) cs c

replies_push : (n capacity : ℕ) (S : Standing) (cs : List CallRecord) (c : CallRecord) →
    all_replies n capacity S (cs ++ c ∷ []) ≡ all_replies n capacity S cs ++ reply_to n capacity (run n capacity S cs) (request_of c) ∷ []
unfolding run all_replies
replies_push n capacity S [] c = refl
replies_push n capacity S (d ∷ cs) c =
    ap (λ (rs : List ReplyRecord). reply_to n capacity S (request_of d) ∷ rs) (replies_push n capacity (after n capacity S (request_of d)) cs c)

module _ (n capacity m b : ℕ) (S S' : Standing) (calls : List CallRecord) (i : ℕ) (d : CallRecord) (l : i < length calls) (em : m ≡ n) (eb : b ≡ capacity)
    (before : S' ≡ run n capacity S (take i calls)) where
  -- what stands after one more
  pub run_more : (S'' : Standing) → S'' ≡ after m b S' (request_of (get_or calls i d)) → S'' ≡ run n capacity S (take (i + 1) calls)
  run_more S'' e =
      e
      ∙ ap₂ (λ (x y : ℕ). after x y S' (request_of (get_or calls i d))) em eb
      ∙ ap (λ (X : Standing). after n capacity X (request_of (get_or calls i d))) before
      ∙ sym (run_push n capacity S (take i calls) (get_or calls i d))
      ∙ ap (run n capacity S) (sym (take_more calls i d l))

  -- and its reply
  pub replies_more : (r : ReplyRecord) (rs : List ReplyRecord) → rs ≡ all_replies n capacity S (take i calls) → r ≡ reply_to m b S' (request_of (get_or calls i d)) →
      rs ++ r ∷ [] ≡ all_replies n capacity S (take (i + 1) calls)
  replies_more r rs so_far e =
      ap₂ (λ (xs : List ReplyRecord) (x : ReplyRecord). xs ++ x ∷ []) so_far
      (e ∙ ap₂ (λ (x y : ℕ). reply_to x y S' (request_of (get_or calls i d))) em eb ∙ ap (λ (X : Standing). reply_to n capacity X (request_of (get_or calls i d))) before)
      ∙ sym (replies_push n capacity S (take i calls) (get_or calls i d))
      ∙ ap (all_replies n capacity S) (sym (take_more calls i d l))

-- before the first
pub run_none : (n capacity : ℕ) (S : Standing) (calls : List CallRecord) → S ≡ run n capacity S (take 0 calls)
unfolding run
run_none n capacity S calls = sym (ap (run n capacity S) (take_none calls))

pub replies_none : (n capacity : ℕ) (S : Standing) (calls : List CallRecord) (old : List ReplyRecord) → take 0 old ≡ all_replies n capacity S (take 0 calls)
unfolding all_replies
replies_none n capacity S calls old = take_none old ∙ sym (ap (all_replies n capacity S) (take_none calls))

-- what lies behind the records
abbrev pub blank : CallRecord
blank = record { kind = 0; plan = 0; first = 0; second = 0; third = 0; fourth = 0 }

-- where no record is left
pub run_nothing : (n capacity : ℕ) (S : Standing) → run n capacity S [] ≡ S
unfolding run
run_nothing n capacity S = refl

pub replies_nothing : (n capacity : ℕ) (S : Standing) → all_replies n capacity S [] ≡ []
unfolding all_replies
replies_nothing n capacity S = refl

-- the same as equations, one record further
pub run_further : (n capacity : ℕ) (S : Standing) (calls : List CallRecord) (i : ℕ) → i < length calls →
    run n capacity S (take (i + 1) calls) ≡ after n capacity (run n capacity S (take i calls)) (request_of (get_or calls i blank))
run_further n capacity S calls i l = ap (run n capacity S) (take_more calls i blank l) ∙ run_push n capacity S (take i calls) (get_or calls i blank)

pub replies_further : (n capacity : ℕ) (S : Standing) (calls : List CallRecord) (i : ℕ) → i < length calls →
    all_replies n capacity S (take (i + 1) calls)
    ≡ all_replies n capacity S (take i calls) ++ reply_to n capacity (run n capacity S (take i calls)) (request_of (get_or calls i blank)) ∷ []
replies_further n capacity S calls i l =
    ap (all_replies n capacity S) (take_more calls i blank l) ∙ replies_push n capacity S (take i calls) (get_or calls i blank)

pub ruleset one_more = (run_nothing, replies_nothing, run_further, replies_further)
