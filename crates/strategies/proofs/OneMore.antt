-- What one more arrival does to the counts. Assumes nothing.
use Rattle.std.proofs.Common.{◌≡◌, ℕ, ◌+◌, ◌<◌, ◌≤◌, min, Bool, ◌&&◌, eqb, List, [], ◌∷◌, ◌++◌, length, get_or, arith}
use Rattle.std.proofs.lemmas.List.{get_or_past, get_or-set_same, get_or-set_other}
use Rattle.lists.specs.Lists.{keep}
use Rattle.strategies.specs.Rows.{same_mark, counted, CountsOf, CappedCountsOf, grown, Grown}
use Rattle.strategies.specs.declared.marks.Sign.TheVariants.{Plus, Minus}
use Rattle.strategies.specs.declared.marks.Mark.{Mark}
use Rattle.strategies.specs.declared.marks.Mark.TheVariants.{Signed, Default}
use Rattle.strategies.specs.declared.marks.Arrival.{Arrival}
use Rattle.strategies.specs.declared.rows.Row.{Row}
use Rattle.strategies.specs.declared.rows.Rows.{Rows}
use Rattle.lists.proofs.Kept.{one, kept_cons, kept_append}

kept_most : {A : Type 0} (f : A → Bool) (xs : List A) → length (keep f xs) ≤ length xs
kept_most f [] = omega arith
kept_most f (x ∷ xs) = let front = kept_cons f x xs in let rest = kept_most f xs in grind arith

counted_most : (m : Mark) (l : List Arrival) (d : ℕ) → counted m l d ≤ length l
unfolding counted
counted_most m l d = kept_most (λ r. same_mark m r.mark && eqb r.distance d) l

counted_push : (m : Mark) (l : List Arrival) (a : Arrival) (d : ℕ) → counted m (l ++ (a ∷ [])) d ≡ counted m l d + one (same_mark m a.mark && eqb a.distance d)
unfolding counted
counted_push m l a d =
    let split = kept_append (λ r. same_mark m r.mark && eqb r.distance d) l (a ∷ []) in
    let last = kept_cons (λ r. same_mark m r.mark && eqb r.distance d) a [] in
    omega arith

-- the counts at a distance, once one more arrived
grown_at : (m : Mark) (a : Arrival) (counts : List ℕ) (d : ℕ) → a.distance < length counts → get_or counts d 0 ≤ 1000000000000
    → get_or (grown m a counts) d 0 ≡ min (get_or counts d 0 + one (same_mark m a.mark && eqb a.distance d)) 1000000000000
grown_at m a counts d within small = grind (arith, get_or-set_same, get_or-set_other)

-- no count of a row is larger than where it stops
row_small : (row : Row) (d : ℕ) → get_or row.counts d 0 ≤ 1000000000000
row_small row d = let long = row.long in let small = row.small d in grind (arith, get_or_past)

pub counts_more : (before after : Rows) (a : Arrival) → Grown before after a
    → (l : List Arrival) → CappedCountsOf before l → a.distance < 15 → CappedCountsOf after (l ++ (a ∷ []))
counts_more before after a g l of near mark d =
    let push = counted_push mark l a d in
    let old = of mark d in
    let plus = grown_at (Signed Plus) a before.plus.counts d (omega (arith, before.plus.long)) (row_small before.plus d) in
    let minus = grown_at (Signed Minus) a before.minus.counts d (omega (arith, before.minus.long)) (row_small before.minus d) in
    let default = grown_at Default a before.default.counts d (omega (arith, before.default.long)) (row_small before.default d) in
    grind arith

-- where fewer arrived than a count can hold, nothing was lost
pub counts_exact : (rows : Rows) (l : List Arrival) → length l ≤ 1000000000000 → CappedCountsOf rows l → CountsOf rows l
counts_exact rows l few of m d = let most = counted_most m l d in let same = of m d in omega arith

pub counts_capped : (rows : Rows) (l : List Arrival) → length l ≤ 1000000000000 → CountsOf rows l → CappedCountsOf rows l
counts_capped rows l few of m d = let most = counted_most m l d in let same = of m d in omega arith

pub counts_none : (rows : Rows) → ((d : ℕ) → get_or rows.plus.counts d 0 ≡ 0) → ((d : ℕ) → get_or rows.minus.counts d 0 ≡ 0) → ((d : ℕ) → get_or rows.default.counts d 0 ≡ 0) → CountsOf rows []
unfolding counted
counts_none rows p m n mark d = let plus = p d in let minus = m d in let default = n d in grind arith
