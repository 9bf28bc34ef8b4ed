-- The strategies stand in the order of their numbers, and each number below 48 has one. Assumes nothing.
use Rattle.std.proofs.Common.{◌≡◌, ℕ, zero, suc, ◌<◌, ◌≤◌, Bool, true, false, ◌&&◌, eqb, ◌⊎◌, length, Some, None, Option, sym, refl, ◌∙◌, subst, inl, inr, arith, MatchOption}
use Rattle.std.proofs.lemmas.Bool.{eqb-true, cases_lt, true≢false}
use Rattle.std.proofs.lemmas.Option.{slice_get_past}
use Rattle.std.proofs.lemmas.Bool.Decides.{Decides-below_and}
use Rattle.strategies.specs.Names.{number_of}
use Rattle.strategies.specs.declared.strategy.Strategy.{Strategy}
use Rattle.fields.specs.Names.{every_strategy}
use Rattle.ffi.specs.Strategies.{strategy_with}

-- does a strategy with the number stand there?
abbrev numbered : ℕ → Option Strategy → Bool
numbered k None = false
numbered k (Some s) = eqb (number_of s) k

-- one test for the first n places
abbrev all_numbered : ℕ → Bool
all_numbered zero = true
all_numbered (suc n) = numbered n (strategy_with n) && all_numbered n

numbered_true : (k : ℕ) → k < 48 → numbered k (strategy_with k) ≡ true
unfolding strategy_with every_strategy
numbered_true k h =
    (Decides-below_and (λ k. numbered k (strategy_with k)) (λ k. numbered k (strategy_with k) ≡ true) all_numbered
    (λ k. ((λ e. e), (λ e. e))) refl (λ _. refl) 48).0 refl k h

-- nothing stands behind the last
forty_eight : length every_strategy ≡ 48
unfolding every_strategy
forty_eight = refl

none_behind : (n : ℕ) → 48 ≤ n → strategy_with n ≡ None
unfolding strategy_with
none_behind n l = slice_get_past every_strategy n (subst (λ (k : ℕ). k ≤ n) (sym forty_eight) l)

-- what is found by number is the strategy with it
pub with_number : (n : ℕ) (r : Option Strategy) → MatchOption r (48 ≤ n) (λ s. number_of s ≡ n) → ((s : Strategy) → number_of s ≡ n → r ≡ Some s) → r ≡ strategy_with n
with_number n r found back = by (cases_lt n 48)
  where
    there : (o : Option Strategy) → strategy_with n ≡ o → numbered n o ≡ true → r ≡ strategy_with n
    there None e t = absurd (true≢false (sym t))
    there (Some s) e t = back s (eqb-true (number_of s) n t) ∙ sym e

    past : (o : Option Strategy) → r ≡ o → MatchOption o (48 ≤ n) (λ s. number_of s ≡ n) → 48 ≤ n → r ≡ strategy_with n
    past None e t l = e ∙ sym (none_behind n l)
    past (Some s) e t l = let b = s.below in absurd (omega arith)

    by : (n < 48) ⊎ (48 ≤ n) → r ≡ strategy_with n
    by (inl l) = there (strategy_with n) refl (numbered_true n l)
    by (inr l) = past r refl found l
