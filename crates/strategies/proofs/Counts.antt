-- Rows that count a list of arrivals have its numbers of votes. Assumes nothing.
use Rattle.std.proofs.Common.{◌≡◌, ℕ, ◌+◌, ◌<◌, ◌≤◌, List, [], Some, None, Option, sym, ap, ◌∙◌, arith, MatchOption}
use Rattle.std.proofs.lemmas.List.{get_or_past}
use Rattle.lists.specs.Lists.{sum_below}
use Rattle.strategies.specs.Resolve.{votes, chosen, tally}
use Rattle.strategies.specs.Rows.{row_at, CountsOf, share, votes_at, any_at}
use Rattle.strategies.specs.declared.marks.Sign.{Sign}
use Rattle.strategies.specs.declared.marks.Sign.TheVariants.{Plus, Minus}
use Rattle.strategies.specs.declared.marks.Mark.{Mark}
use Rattle.strategies.specs.declared.marks.Mark.TheVariants.{Signed, Default}
use Rattle.strategies.specs.declared.marks.Arrival.{Arrival}
use Rattle.strategies.specs.declared.rows.Rows.{Rows}
use Rattle.strategies.specs.declared.strategy.DefaultRule.{DefaultRule}
use Rattle.strategies.specs.declared.strategy.Locality.TheVariants.{Nearest, Farthest}
use Rattle.lists.proofs.Sums.{sum_same}
use Rattle.strategies.proofs.Tallies.{tally_at, tally_sum, tally_votes, share_zero, no_votes, tally_nearest, tally_farthest}

-- rows have nothing past distance 14
row_past : (rows : Rows) (m : Mark) (d : ℕ) → 15 ≤ d → row_at rows m d ≡ 0
row_past rows m d h = let p = rows.plus.long in let n = rows.minus.long in let o = rows.default.long in grind (arith, get_or_past)

pub votes_past : (rule : DefaultRule) (s : Sign) (rows : Rows) (d : ℕ) → 15 ≤ d → votes_at rule s rows d ≡ 0
votes_past rule s rows d h =
    let signed = row_past rows (Signed s) d h in
    let default : share rule s (row_at rows Default d) ≡ 0 = ap (share rule s) (row_past rows Default d h) ∙ share_zero rule s in
    omega arith

module _ (rows : Rows) (rule : DefaultRule) (l : List Arrival) (of : CountsOf rows l) where
  -- at every distance
  pub same_votes : (s : Sign) (d : ℕ) → tally_at s d (votes rule l) ≡ votes_at rule s rows d
  same_votes s d =
      let settled = tally_votes rule s d l in
      let signed = of (Signed s) d in
      let default = ap (share rule s) (of Default d) in
      omega arith

  pub same_any : (d : ℕ) → tally_at Plus d (votes rule l) + tally_at Minus d (votes rule l) ≡ any_at rule rows d
  same_any d = let plus = same_votes Plus d in let minus = same_votes Minus d in omega arith

  -- at all distances together
  pub same_total : (s : Sign) → sum_below 15 (votes_at rule s rows) ≡ tally s (votes rule l)
  same_total s =
      sym (tally_sum s 15 (votes rule l) (λ d h. same_votes s d ∙ votes_past rule s rows d h)
      ∙ sum_same 15 (λ d. tally_at s d (votes rule l)) (votes_at rule s rows) (λ d h. same_votes s d))

  -- none at all
  pub none_left : ((k : ℕ) → k < 15 → any_at rule rows k ≡ 0) → votes rule l ≡ []
  none_left none = no_votes (votes rule l) (λ d. let plus = votes_past rule Plus rows d in let minus = votes_past rule Minus rows d in let here = none d in let same = same_any d in grind arith)

  pub same_nearest : (m : ℕ) → 0 < any_at rule rows m → ((k : ℕ) → k < m → any_at rule rows k ≡ 0) → (s : Sign) → votes_at rule s rows m ≡ tally s (chosen Nearest (votes rule l))
  same_nearest m some none s =
      sym (tally_nearest (votes rule l) m (let same = same_any m in omega arith) (λ k h. same_any k ∙ none k h) s ∙ same_votes s m)

  pub same_farthest : (m : ℕ) → 0 < any_at rule rows m → ((k : ℕ) → m < k → k < 15 → any_at rule rows k ≡ 0) → (s : Sign) → votes_at rule s rows m ≡ tally s (chosen Farthest (votes rule l))
  same_farthest m some none s =
      sym (tally_farthest (votes rule l) m (let same = same_any m in omega arith)
      (λ k h. let plus = votes_past rule Plus rows k in let minus = votes_past rule Minus rows k in let here = none k h in let same = same_any k in grind arith) s ∙ same_votes s m)

  -- the number that is read at the nearest distance, if there is one
  pub near : (o : Option ℕ) (n : ℕ) (s : Sign) → MatchOption o ((k : ℕ) → k < 15 → any_at rule rows k ≡ 0) (λ d. (0 < any_at rule rows d) × ((k : ℕ) → k < d → any_at rule rows k ≡ 0))
      → MatchOption o (n ≡ 0) (λ d. n ≡ votes_at rule s rows d) → n ≡ tally s (chosen Nearest (votes rule l))
  unfolding chosen tally
  near None n s h e = e ∙ sym (ap (λ vs. tally s (chosen Nearest vs)) (none_left h))
  near (Some d) n s h e = e ∙ same_nearest d h.0 h.1 s

  pub far : (o : Option ℕ) (n : ℕ) (s : Sign) → MatchOption o ((k : ℕ) → k < 15 → any_at rule rows k ≡ 0) (λ d. (0 < any_at rule rows d) × ((k : ℕ) → d < k → k < 15 → any_at rule rows k ≡ 0))
      → MatchOption o (n ≡ 0) (λ d. n ≡ votes_at rule s rows d) → n ≡ tally s (chosen Farthest (votes rule l))
  unfolding chosen tally
  far None n s h e = e ∙ sym (ap (λ vs. tally s (chosen Farthest vs)) (none_left h))
  far (Some d) n s h e = e ∙ same_farthest d h.0 h.1 s
