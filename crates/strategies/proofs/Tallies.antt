-- How many votes there are at each distance, and where the least and the greatest distance are. Assumes nothing.
use Rattle.std.proofs.Common.{◌≡◌, ℕ, ◌+◌, ◌<◌, ◌≤◌, Bool, true, false, ◌&&◌, eqb, ◌⊎◌, List, [], ◌∷◌, length, sym, refl, ap, ◌∙◌, inl, inr, arith}
use Rattle.std.proofs.lemmas.Bool.{cases_lt, eq-eqb}
use Rattle.lists.specs.Lists.{keep, sum_below}
use Rattle.strategies.specs.Resolve.{Vote, same_sign, vote_of, votes, distances, least_of, greatest_of, chosen, tally}
use Rattle.strategies.specs.Rows.{same_mark, counted, share}
use Rattle.strategies.specs.declared.marks.Sign.{Sign}
use Rattle.strategies.specs.declared.marks.Sign.TheVariants.{Plus, Minus}
use Rattle.strategies.specs.declared.marks.Mark.{Mark}
use Rattle.strategies.specs.declared.marks.Mark.TheVariants.{Signed, Default}
use Rattle.strategies.specs.declared.marks.Arrival.{Arrival}
use Rattle.strategies.specs.declared.strategy.DefaultRule.{DefaultRule}
use Rattle.strategies.specs.declared.strategy.Locality.TheVariants.{Nearest, Farthest}
use Rattle.lists.proofs.Sums.{sum_add, sum_zero, sum_same}
use Rattle.lists.proofs.Kept.{one, sum_at, kept_cons, kept_append, kept_none, kept_twice}
use Rattle.strategies.proofs.Hits.{hits, hits_head, least_hit, least_le, greatest_hit, greatest_le}

-- how many votes have the sign and the distance
abbrev pub tally_at : Sign → ℕ → List Vote → ℕ
tally_at s d vs = length (keep (λ v. same_sign s v.sign && eqb v.distance d) vs)

-- the votes of a sign are those at all distances together
pub tally_sum : (s : Sign) (n : ℕ) (vs : List Vote) → ((d : ℕ) → n ≤ d → tally_at s d vs ≡ 0) → tally s vs ≡ sum_below n (λ d. tally_at s d vs)
unfolding tally
tally_sum s n [] h = sym (sum_zero n (λ d. 0) (λ m l. refl))
tally_sum s n (v ∷ vs) h =
    let front = kept_cons (λ v. same_sign s v.sign) v vs in
    let apart = sum_same n (λ d. tally_at s d (v ∷ vs)) (λ d. one (same_sign s v.sign && eqb v.distance d) + tally_at s d vs) (λ d l. kept_cons (λ v. same_sign s v.sign && eqb v.distance d) v vs) in
    let split = sum_add n (λ d. one (same_sign s v.sign && eqb v.distance d)) (λ d. tally_at s d vs) in
    let rest = tally_sum s n vs (λ d l. (kept_none (λ v. same_sign s v.sign && eqb v.distance d) v vs (h d l)).1) in
    let here = by (same_sign s v.sign) (λ d l. (kept_none (λ v. same_sign s v.sign && eqb v.distance d) v vs (h d l)).0) in
    omega arith
  where
    clash : (e : ℕ) → one (eqb e e) ≡ 0 → ⊥
    clash e q = let yes : one (eqb e e) ≡ 1 = ap one (eq-eqb e e refl) in omega arith

    by : (b : Bool) → ((d : ℕ) → n ≤ d → one (b && eqb v.distance d) ≡ 0) → sum_below n (λ d. one (b && eqb v.distance d)) ≡ one b
    by true q = within (cases_lt v.distance n)
      where
        within : (v.distance < n) ⊎ (n ≤ v.distance) → sum_below n (λ d. one (eqb v.distance d)) ≡ 1
        within (inl l) = sum_at n v.distance l
        within (inr l) = absurd (clash v.distance (q v.distance l))
    by false q = sum_zero n (λ d. 0) (λ m l. refl)

-- the votes that are kept at a distance
pub tally_kept : (s : Sign) (d : ℕ) (vs : List Vote) → tally s (keep (λ v. eqb v.distance d) vs) ≡ tally_at s d vs
unfolding tally
tally_kept s d vs = kept_twice (λ v. same_sign s v.sign) (λ v. eqb v.distance d) vs

pub share_zero : (rule : DefaultRule) (s : Sign) → share rule s 0 ≡ 0
share_zero rule s = grind arith

share_add : (rule : DefaultRule) (s : Sign) (x y : ℕ) → share rule s (x + y) ≡ share rule s x + share rule s y
share_add rule s x y = grind arith

module _ (s : Sign) (d : ℕ) where
  abbrev is : Vote → Bool
  is v = same_sign s v.sign && eqb v.distance d

  -- what one mark leaves
  own : (rule : DefaultRule) (m : Mark) (e : ℕ) → length (keep is (vote_of rule m e)) ≡ one (same_mark (Signed s) m && eqb e d) + share rule s (one (same_mark Default m && eqb e d))
  own rule m e = grind (arith, share_zero, kept_cons)

-- settled marks are the signed ones and the share of the default marks
pub tally_votes : (rule : DefaultRule) (s : Sign) (d : ℕ) (l : List Arrival) → tally_at s d (votes rule l) ≡ counted (Signed s) l d + share rule s (counted Default l d)
unfolding votes counted
tally_votes rule s d [] = let none = share_zero rule s in omega arith
tally_votes rule s d (a ∷ l) =
    let split = kept_append (is s d) (vote_of rule a.mark a.distance) (votes rule l) in
    let signed = kept_cons (λ r. same_mark (Signed s) r.mark && eqb r.distance d) a l in
    let default = ap (share rule s) (kept_cons (λ r. same_mark Default r.mark && eqb r.distance d) a l) in
    let more = share_add rule s (one (same_mark Default a.mark && eqb a.distance d)) (counted Default l d) in
    let here = own s d rule a.mark a.distance in
    let rest = tally_votes rule s d l in
    omega arith

-- the votes at a distance are those of both signs
pub hits_both : (d : ℕ) (vs : List Vote) → hits d (distances vs) ≡ tally_at Plus d vs + tally_at Minus d vs
hits_both d [] = refl
hits_both d (v ∷ vs) =
    let front = kept_cons (λ x. eqb x d) v.distance (distances vs) in
    let plus = kept_cons (is Plus d) v vs in
    let minus = kept_cons (is Minus d) v vs in
    let rest = hits_both d vs in
    grind arith

-- without a vote at any distance there is none
pub no_votes : (vs : List Vote) → ((d : ℕ) → tally_at Plus d vs + tally_at Minus d vs ≡ 0) → vs ≡ []
no_votes [] h = refl
no_votes (v ∷ vs) h =
    let e = v.distance in
    let some = hits_head e e (distances vs) refl in
    let both = hits_both e (v ∷ vs) in
    let none = h e in
    absurd (omega arith)

-- the least and the greatest distance, from the numbers of votes
least_is : (v : Vote) (vs : List Vote) (m : ℕ) → 0 < tally_at Plus m (v ∷ vs) + tally_at Minus m (v ∷ vs) → ((k : ℕ) → k < m → tally_at Plus k (v ∷ vs) + tally_at Minus k (v ∷ vs) ≡ 0) → least_of v.distance (distances vs) ≡ m
least_is v vs m some none =
    let least = least_of v.distance (distances vs) in
    let hit = least_hit v.distance (distances vs) in
    let both = hits_both m (v ∷ vs) in
    let at_most = least_le v.distance m (distances vs) (omega arith) in
    let there = hits_both least (v ∷ vs) in
    grind (arith, none least)

greatest_is : (v : Vote) (vs : List Vote) (m : ℕ) → 0 < tally_at Plus m (v ∷ vs) + tally_at Minus m (v ∷ vs) → ((k : ℕ) → m < k → tally_at Plus k (v ∷ vs) + tally_at Minus k (v ∷ vs) ≡ 0) → greatest_of v.distance (distances vs) ≡ m
greatest_is v vs m some none =
    let greatest = greatest_of v.distance (distances vs) in
    let hit = greatest_hit v.distance (distances vs) in
    let both = hits_both m (v ∷ vs) in
    let at_most = greatest_le v.distance m (distances vs) (omega arith) in
    let there = hits_both greatest (v ∷ vs) in
    grind (arith, none greatest)

-- the chosen votes are those at the least distance that has any
pub tally_nearest : (vs : List Vote) (m : ℕ) → 0 < tally_at Plus m vs + tally_at Minus m vs → ((k : ℕ) → k < m → tally_at Plus k vs + tally_at Minus k vs ≡ 0) → (s : Sign) → tally s (chosen Nearest vs) ≡ tally_at s m vs
unfolding chosen
tally_nearest [] m some none s = absurd (omega arith)
tally_nearest (v ∷ vs) m some none s = tally_kept s (least_of v.distance (distances vs)) (v ∷ vs) ∙ ap (λ d. tally_at s d (v ∷ vs)) (least_is v vs m some none)

-- the chosen votes are those at the greatest distance that has any
pub tally_farthest : (vs : List Vote) (m : ℕ) → 0 < tally_at Plus m vs + tally_at Minus m vs → ((k : ℕ) → m < k → tally_at Plus k vs + tally_at Minus k vs ≡ 0) → (s : Sign) → tally s (chosen Farthest vs) ≡ tally_at s m vs
unfolding chosen
tally_farthest [] m some none s = absurd (omega arith)
tally_farthest (v ∷ vs) m some none s = tally_kept s (greatest_of v.distance (distances vs)) (v ∷ vs) ∙ ap (λ d. tally_at s d (v ∷ vs)) (greatest_is v vs m some none)
