-- How many rows an account's chains and a grant give at most. Assumes nothing.
use Rattle.std.proofs.Common.{◌≡◌, ℕ, ◌+◌, ◌*◌, ◌^◌, ◌<◌, ◌≤◌, Bool, true, false, cond, eqb, List, [], map, length, ◌∙◌, mul-le-mul_right, mul-le-mul_left, arith}
use lib.ListN.{length-map}
use Rattle.lists.specs.Lists.{below, join_all, sum_below}
use Rattle.lists.proofs.Sums.{sum_le, sum_bound, sum_times}
use Rattle.lists.proofs.Kept.{length_joined, sum_by_same, sum_by_same_all, sum_by_below}
use Rattle.chains.specs.Chains.{Members, chains, count}
use Rattle.plans.specs.Items.{Items, Lawful, item_chains}
use Rattle.plans.proofs.ItemChains.{chains_few}
use Rattle.strategies.specs.declared.marks.Mark.{Mark}
use Rattle.strategies.specs.declared.marks.Mark.TheVariants.{Signed}
use Rattle.strategies.specs.declared.marks.Arrival.{Arrival}
use Rattle.model.specs.Question.{over_chains, grant_arrivals}
use Rattle.model.specs.declared.grant.Grant.{Grant}

-- at most 255 chains lead down from an item to another
pub few_item_chains : (I : Items) → Lawful I → (b o : ℕ) → sum_below 8 (λ j. length (item_chains I b o j)) ≤ 255
few_item_chains I lawful b o =
    sum_le 8 (λ j. length (item_chains I b o j)) (λ j. 2 ^ j) (λ j l. chains_few I lawful j b o)

-- the rows of an account's chains
pub chains_bound : (n : ℕ) (E : Members) (a s : ℕ) → ((k : ℕ) → k < 8 → count n E a s k ≤ 99999) → (m : Mark) (more : ℕ) →
    length (over_chains n E a s m more) ≤ 799992
unfolding over_chains count
chains_bound n E a s few m more =
    let sum : length (over_chains n E a s m more) ≡ sum_below 8 (count n E a s) =
    length_joined (λ k. map (row k) (chains n E a s k)) (below 8)
    ∙ sum_by_same (λ k. length (map (row k) (chains n E a s k))) (count n E a s) (λ k. length-map (chains n E a s k) (row k)) (below 8)
    ∙ sum_by_below (count n E a s) 8 in
    let bound = sum_bound 8 (count n E a s) 99999 few in
    omega arith
  where
    row : ℕ → List ℕ → Arrival
    row k path = record { mark = m; distance = k + more }

-- the rows of a grant
pub grant_bound : (n : ℕ) (E : Members) (I : Items) → Lawful I → (s o r : ℕ) (g : Grant) →
    ((k : ℕ) → k < 8 → count n E g.account s k ≤ 99999) → length (grant_arrivals n E I s o r g) ≤ 203997960
unfolding grant_arrivals
grant_bound n E I lawful s o r g few = step (eqb g.right r)
  where
    rows : ℕ → List Arrival
    rows j = over_chains n E g.account s (Signed g.sign) j

    each : ℕ → List Arrival
    each j = join_all (λ path. rows j) (item_chains I g.item o j)

    chains_of : ℕ → ℕ
    chains_of j = length (item_chains I g.item o j)

    times : (j : ℕ) → length (each j) ≡ chains_of j * length (rows j)
    times j =
        length_joined (λ (path : List ℕ). rows j) (item_chains I g.item o j)
        ∙ sum_by_same_all (length (rows j)) (item_chains I g.item o j)

    step : (t : Bool) → length (cond t (join_all each (below 8)) []) ≤ 203997960
    step true =
        let sum : length (join_all each (below 8)) ≡ sum_below 8 (λ j. chains_of j * length (rows j)) = length_joined each (below 8) ∙ sum_by_same (λ j. length (each j)) (λ j. chains_of j * length (rows j)) times (below 8)
        ∙ sum_by_below (λ j. chains_of j * length (rows j)) 8 in
        let most = sum_le 8 (λ j. chains_of j * length (rows j)) (λ j. chains_of j * 799992)
        (λ j l. mul-le-mul_left (chains_of j) (chains_bound n E g.account s few (Signed g.sign) j)) in
        let taken = sum_times 8 chains_of 799992 in
        let chains_few = few_item_chains I lawful g.item o in
        let bound : sum_below 8 chains_of * 799992 ≤ 255 * 799992 = mul-le-mul_right 799992 chains_few in
        omega arith
    step false = omega arith
