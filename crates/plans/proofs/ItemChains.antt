-- How many item chains there are. Assumes nothing.
use Rattle.std.proofs.Common.{◌≡◌, ℕ, zero, suc, ◌^◌, ◌≤◌, Bool, true, false, cond, eqb, List, [], ◌∷◌, map, length, sum_by, sym, refl, ◌∙◌, mul-le-mul_right, arith}
use mathlib.Core.List.Memᴰ
use lib.ListN.{length-map}
use Rattle.std.proofs.ByRecursion.{sum_by_le}
use Rattle.lists.specs.Lists.{Listed, sum_below}
use Rattle.lists.proofs.Sums.{sum_same, sum_zero, sum_has, sum_le}
use Rattle.lists.proofs.Kept.{length_joined, sum_by_same}
use Rattle.plans.specs.Items.{Items, Lawful, item_chains}
use Rattle.plans.specs.Runs.{ItemChain}
use Rattle.plans.proofs.ListSums.{sum_by_swap, sum_at_most_one, sum_to_eight, sum_of_powers}
use Rattle.plans.proofs.Joined.{listed_all}
use Rattle.plans.proofs.Listing.{listed_is_chain}
use Rattle.plans.proofs.LongestRuns.{most}

-- a chain of one container or more begins, from below, with a container of its lowest item
pub chains_step : (M : Items) (b o k : ℕ) → length (item_chains M b o (suc k)) ≡ sum_by (λ c. length (item_chains M b c k)) (M.containers o)
unfolding item_chains
chains_step M b o k =
    length_joined (λ c. map (λ path. o ∷ path) (item_chains M b c k)) (M.containers o)
    ∙ sum_by_same (λ c. length (map (λ path. o ∷ path) (item_chains M b c k))) (λ c. length (item_chains M b c k))
    (λ c. length-map (item_chains M b c k) (λ path. o ∷ path)) (M.containers o)

-- a chain of no container
pub chains_start : (M : Items) (b o : ℕ) → length (item_chains M b o 0) ≡ cond (eqb b o) 1 0
unfolding item_chains
chains_start M b o = step (eqb b o)
  where
    step : (t : Bool) → length (cond {A = List (List ℕ)} t ((o ∷ []) ∷ []) []) ≡ cond t 1 0
    step true = refl
    step false = refl

module _ (M : Items) (lawful : Lawful M) where
  -- the chains of one length from all items together: no item has more than two containers
  pub chains_few_together : (n k o : ℕ) → sum_below n (λ b. length (item_chains M b o k)) ≤ 2 ^ k
  chains_few_together n zero o =
      let same = sum_same n (λ b. length (item_chains M b o 0)) (λ b. cond (eqb b o) 1 0) (λ b l. chains_start M b o) in
      let one = sum_at_most_one n o in
      omega arith
  chains_few_together n (suc k) o =
      let f : ℕ → ℕ = λ c. sum_below n (λ b. length (item_chains M b c k)) in
      let step : sum_below n (λ b. length (item_chains M b o (suc k))) ≡ sum_by f (M.containers o) =
      sum_same n (λ b. length (item_chains M b o (suc k))) (λ b. sum_by (λ c. length (item_chains M b c k)) (M.containers o)) (λ b l. chains_step M b o k)
      ∙ sym (sum_by_swap n (λ c b. length (item_chains M b c k)) (M.containers o)) in
      let each = sum_by_le f (2 ^ k) (M.containers o) (listed_all (λ c. f c ≤ 2 ^ k) (M.containers o) (λ c h. chains_few_together n k c)) in
      let two = mul-le-mul_right (2 ^ k) (lawful.few o) in
      omega arith

  -- and so those from one item
  pub chains_few : (k b o : ℕ) → length (item_chains M b o k) ≤ 2 ^ k
  chains_few k b o =
      let all = chains_few_together (suc b) k o in
      let own = sum_has (suc b) (λ b. length (item_chains M b o k)) b (omega arith) in
      omega arith

  -- no chain is longer than the longest run above its lowest item
  pub chain_short : {b k o : ℕ} → ItemChain M b k o → k ≤ 7
  chain_short {b} {k} {o} c = let l = most M lawful c in let low = lawful.low o in omega arith

  pub none_longer : (b o k : ℕ) → 8 ≤ k → length (item_chains M b o k) ≡ 0
  none_longer b o k l = step (item_chains M b o k) (λ path h. (listed_is_chain M k b o path h).0)
    where
      step : (paths : List (List ℕ)) → ((path : List ℕ) → Listed path paths → ItemChain M b k o) → length paths ≡ 0
      step [] h = refl
      step (p ∷ ps) h = absurd (let s = chain_short (h p (Memᴰ.head refl)) in omega arith)

  pub all_lengths_few : (n m o : ℕ) → sum_below m (λ k. sum_below n (λ b. length (item_chains M b o k))) ≤ 255
  all_lengths_few n m o =
      let f : ℕ → ℕ = λ k. sum_below n (λ b. length (item_chains M b o k)) in
      let eight = sum_to_eight m f (λ k l. none k l) in
      let few = sum_of_powers f (λ k. chains_few_together n k o) in
      omega arith
    where
      none : (k : ℕ) → 8 ≤ k → sum_below n (λ b. length (item_chains M b o k)) ≡ 0
      none k l = sum_zero n (λ b. length (item_chains M b o k)) (λ b u. none_longer b o k l)

  pub own_lengths_few : (m b o : ℕ) → sum_below m (λ k. length (item_chains M b o k)) ≤ 255
  own_lengths_few m b o =
      let all = all_lengths_few (suc b) m o in
      let own = sum_le m (λ k. length (item_chains M b o k)) (λ k. sum_below (suc b) (λ b. length (item_chains M b o k)))
      (λ k l. sum_has (suc b) (λ b. length (item_chains M b o k)) b (omega arith)) in
      omega arith
