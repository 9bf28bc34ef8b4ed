-- The counts after a membership is struck out. Assumes nothing.
use Rattle.std.proofs.Common.{◌≡◌, ℕ, suc, ◌+◌, ◌-◌, ◌*◌, ◌<◌, true, sym, ap, ◌∙◌, ap₂}
use Rattle.chains.specs.Chains.{Members, NoChain, add, strike, count, past}
use Rattle.lists.proofs.Sums.{sum_same}
use Rattle.chains.proofs.Steps.{chain_more}
use Rattle.chains.proofs.Sets.{same_counts, add_strike, strike_gone, strike_part}
use Rattle.chains.proofs.Added.{count_added, group_unchanged, member_unchanged}

module _ (n : ℕ) (F : Members) (p c : ℕ) (small : c < n) (stands : F p c ≡ true) (free : NoChain F c p) where
  still_free : NoChain (strike F p c) c p
  still_free k d = free k (chain_more (strike_part F p c) d)

  -- put back in, the membership makes the set what it was
  back : (a s k : ℕ) → count n (add (strike F p c) p c) a s k ≡ count n F a s k
  back a s k = same_counts n (add (strike F p c) p c) F (add_strike F p c stands) a s k

  pub group_unchanged_struck : (a i : ℕ) → count n (strike F p c) a p i ≡ count n F a p i
  group_unchanged_struck a i = sym (group_unchanged n (strike F p c) p c small (strike_gone F p c) still_free a i) ∙ back a p i

  pub member_unchanged_struck : (s j : ℕ) → count n (strike F p c) c s j ≡ count n F c s j
  member_unchanged_struck s j = sym (member_unchanged n (strike F p c) p c small (strike_gone F p c) still_free s j) ∙ back c s j

  pub count_struck : (k a s : ℕ) → count n F a s k ≡ count n (strike F p c) a s k + past n F p c a s k
  count_struck k a s =
      sym (back a s k)
      ∙ count_added n (strike F p c) p c small (strike_gone F p c) still_free k a s
      ∙ ap (λ (x : ℕ). count n (strike F p c) a s k + x)
      (sum_same k (λ i. count n (strike F p c) a p i * count n (strike F p c) c s (k - suc i)) (λ i. count n F a p i * count n F c s (k - suc i))
      (λ i l. ap₂ (λ (x y : ℕ). x * y) (group_unchanged_struck a i) (member_unchanged_struck s (k - suc i))))
