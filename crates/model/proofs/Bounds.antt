-- No row of a listing is far, and there are not too many. Assumes nothing.
use Rattle.std.proofs.Common.{◌≡◌, ℕ, zero, suc, ◌+◌, ◌<◌, ◌≤◌, Bool, true, false, cond, ◌&&◌, eqb, List, [], ◌∷◌, map, length, refl, ◌∙◌, arith, length-append}
use Rattle.std.specs.List.{AllByRecursion}
use Rattle.std.proofs.ByRecursion.{All-append, All-weaker, sum_by_le}
use Rattle.std.proofs.lemmas.Bool.{or_parts}
use Rattle.lists.specs.Lists.{below, join_all, keep, some, sum_below}
use Rattle.lists.proofs.Sums.{sum_bound}
use Rattle.lists.proofs.Kept.{length_joined, sum_by_below, sum_by_kept}
use Rattle.chains.specs.Chains.{Members, chains, count}
use Rattle.plans.specs.Items.{Items, Lawful, item_chains}
use Rattle.strategies.specs.Rows.{counted, same_mark}
use Rattle.strategies.specs.declared.marks.Mark.{Mark}
use Rattle.strategies.specs.declared.marks.Mark.TheVariants.{Signed, Default}
use Rattle.strategies.specs.declared.marks.Arrival.{Arrival}
use Rattle.model.specs.Grants.{misfit}
use Rattle.model.specs.Model.{Model}
use Rattle.model.specs.Question.{over_chains, grant_arrivals, unmarked, default_marks, listing}
use Rattle.model.specs.ListingLaws.{FewRows}
use Rattle.model.specs.declared.grant.Grant.{Grant}
use Rattle.model.proofs.GrantBounds.{chains_bound, grant_bound}

pub all_of : {A : Type 0} (P : A → Type 0) → ((x : A) → P x) → (xs : List A) → AllByRecursion P xs
all_of P f [] = tt
all_of P f (x ∷ xs) = (f x, all_of P f xs)

all_joined : {A B : Type 0} (P : B → Type 0) (f : A → List B) (xs : List A) → AllByRecursion (λ x. AllByRecursion P (f x)) xs → AllByRecursion P (join_all f xs)
all_joined P f [] a = tt
all_joined P f (x ∷ xs) a = All-append P (f x) (join_all f xs) a.0 (all_joined P f xs a.1)

all_same : {A B : Type 0} (P : B → Type 0) (y : B) → P y → (xs : List A) → AllByRecursion P (map (λ x. y) xs)
all_same P y h [] = tt
all_same P y h (x ∷ xs) = (h, all_same P y h xs)

pub all_below : (n : ℕ) → AllByRecursion (λ k. k < n) (below n)
all_below zero = tt
all_below (suc n) =
    All-append (λ k. k < suc n) (below n) (n ∷ [])
    (All-weaker (λ k. k < n) (λ k. k < suc n) (λ k l. omega arith) (below n) (all_below n)) (omega arith, tt)

abbrev pub Near : Arrival → Type 0
Near row = row.distance < 15

chains_near : (n : ℕ) (E : Members) (a s : ℕ) (m : Mark) (more : ℕ) → more < 8 → AllByRecursion Near (over_chains n E a s m more)
unfolding over_chains
chains_near n E a s m more short =
    all_joined Near (λ k. map (λ path. record { mark = m; distance = k + more }) (chains n E a s k)) (below 8)
    (All-weaker (λ k. k < 8) (λ k. AllByRecursion Near (map (λ (path : List ℕ). record { mark = m; distance = k + more }) (chains n E a s k)))
    (λ k l. all_same Near (record { mark = m; distance = k + more }) (omega arith) (chains n E a s k)) (below 8) (all_below 8))

grant_near : (n : ℕ) (E : Members) (I : Items) (s o r : ℕ) (g : Grant) → AllByRecursion Near (grant_arrivals n E I s o r g)
unfolding grant_arrivals
grant_near n E I s o r g = step (eqb g.right r)
  where
    each : (j : ℕ) → List Arrival
    each j = join_all (λ path. over_chains n E g.account s (Signed g.sign) j) (item_chains I g.item o j)

    step : (t : Bool) → AllByRecursion Near (cond t (join_all each (below 8)) [])
    step true =
        all_joined Near each (below 8)
        (All-weaker (λ j. j < 8) (λ j. AllByRecursion Near (each j))
        (λ j l. all_joined Near (λ (path : List ℕ). over_chains n E g.account s (Signed g.sign) j) (item_chains I g.item o j)
        (all_of (λ path. AllByRecursion Near (over_chains n E g.account s (Signed g.sign) j))
        (λ path. chains_near n E g.account s (Signed g.sign) j l) (item_chains I g.item o j)))
        (below 8) (all_below 8))
    step false = tt

-- no row is listed at a distance of 15 or more
pub listed_near : (n : ℕ) (M : Model) (I : Items) (s o r : ℕ) → AllByRecursion Near (listing n M I s o r)
unfolding listing default_marks
listed_near n M I s o r =
    All-append Near (join_all (grant_arrivals n M.members I s o r) M.grants) (default_marks n M I s o r)
    (all_joined Near (grant_arrivals n M.members I s o r) M.grants
    (all_of (λ g. AllByRecursion Near (grant_arrivals n M.members I s o r g)) (grant_near n M.members I s o r) M.grants))
    (all_joined Near (λ a. over_chains n M.members a s Default 0) (keep (unmarked n M I o r) (below n))
    (all_of (λ a. AllByRecursion Near (over_chains n M.members a s Default 0))
    (λ a. chains_near n M.members a s Default 0 (omega arith)) (keep (unmarked n M I o r) (below n))))

pub kept_le : {A : Type 0} (f : A → Bool) (xs : List A) → length (keep f xs) ≤ length xs
kept_le f [] = omega arith
kept_le f (x ∷ xs) = let before = kept_le f xs in grind arith

pub counted_le : (m : Mark) (rows : List Arrival) (d : ℕ) → counted m rows d ≤ length rows
unfolding counted
counted_le m rows d = kept_le (λ r. same_mark m r.mark && eqb r.distance d) rows

-- nothing is counted farther away than that
pub counted_far : (n : ℕ) (M : Model) (I : Items) (s o r : ℕ) (m : Mark) (d : ℕ) → 15 ≤ d → counted m (listing n M I s o r) d ≡ 0
unfolding counted
counted_far n M I s o r m d far = none (listing n M I s o r) (listed_near n M I s o r)
  where
    none : (rows : List Arrival) → AllByRecursion Near rows → length (keep (λ x. same_mark m x.mark && eqb x.distance d) rows) ≡ 0
    none [] near = refl
    none (x ∷ xs) near = let rest = none xs near.1 in let here = near.0 in grind arith

-- the rows of a listing are few enough for any of their sums
pub listed_few_in : (n : ℕ) (M : Model) (I : Items) → Lawful I → (s o r : ℕ) → s < n → n ≤ 64 → length M.grants ≤ 512 →
    AllByRecursion (λ g. g.account < n) M.grants →
    ((a s k : ℕ) → a < n → s < n → k < 8 → count n M.members a s k ≤ 99999) →
    length (listing n M I s o r) ≤ 104498155008
unfolding listing default_marks
listed_few_in n M I lawful s o r known small room held few =
    let both = length-append (join_all (grant_arrivals n M.members I s o r) M.grants) (default_marks n M I s o r) in
    let grants = length_joined (grant_arrivals n M.members I s o r) M.grants in
    let grants-most = sum_by_le (λ g. length (grant_arrivals n M.members I s o r g)) 203997960 M.grants
    (All-weaker (λ g. g.account < n) (λ g. length (grant_arrivals n M.members I s o r g) ≤ 203997960)
    (λ g l. grant_bound n M.members I lawful s o r g (λ k b. few g.account s k l known b)) M.grants held) in
    let marks : length (default_marks n M I s o r) ≡ sum_below n (λ a. cond (unmarked n M I o r a) (length (over_chains n M.members a s Default 0)) 0) = length_joined (λ a. over_chains n M.members a s Default 0) (keep (unmarked n M I o r) (below n))
    ∙ sum_by_kept (λ a. length (over_chains n M.members a s Default 0)) (unmarked n M I o r) (below n)
    ∙ sum_by_below (λ a. cond (unmarked n M I o r a) (length (over_chains n M.members a s Default 0)) 0) n in
    let marks-most = sum_bound n (λ a. cond (unmarked n M I o r a) (length (over_chains n M.members a s Default 0)) 0) 799992
    (λ a l. under (unmarked n M I o r a) _ (chains_bound n M.members a s (λ k b. few a s k l known b) Default 0)) in
    omega arith
  where
    under : (t : Bool) (x : ℕ) → x ≤ 799992 → cond t x 0 ≤ 799992
    under true x h = h
    under false x h = omega arith

-- grants that fit are to known accounts and on items up to 255
pub fit_accounts : (n : ℕ) (gs : List Grant) → some (misfit n) gs ≡ false → AllByRecursion (λ g. g.account < n) gs
fit_accounts n [] e = tt
fit_accounts n (g ∷ gs) e = let both = or_parts (misfit n g) (some (misfit n) gs) e in (grind arith, fit_accounts n gs both.1)

pub fit_items : (n : ℕ) (gs : List Grant) → some (misfit n) gs ≡ false → AllByRecursion (λ g. g.item < 256) gs
fit_items n [] e = tt
fit_items n (g ∷ gs) e = let both = or_parts (misfit n g) (some (misfit n) gs) e in (grind arith, fit_items n gs both.1)

-- whatever calls can leave
pub listed_few : FewRows
listed_few n capacity M I small room h lawful s o r known =
    let most = h.room in
    listed_few_in n M I lawful s o r known small (omega arith) (fit_accounts n M.grants h.fitting) (λ a t k la lt lk. h.sound.few a t k)
