-- What the tests of a set of memberships tell of its counts. Assumes nothing.
use Rattle.std.proofs.Common.{◌≡◌, ℕ, ◌<◌, ◌≤◌, true, false, ltb}
use Rattle.std.proofs.lemmas.Bool.{lt-ltb, le-ltb, ltb-true, ltb-false}
use Rattle.lists.specs.Lists.{any_at_all, below, some}
use Rattle.chains.specs.Chains.{Members, chains, count}
use Rattle.chains.specs.Tests.{leads, too_long, too_many}
use Rattle.chains.proofs.Some.{some_yes, some_no, some_none, some_found, any_yes, any_no, any_found, any_none}

module _ (n : ℕ) (E : Members) where
  pub leads_yes : (a s k : ℕ) → k < 8 → 0 < count n E a s k → leads n E a s ≡ true
  unfolding leads count
  leads_yes a s k l pos = some_yes (λ j. any_at_all (chains n E a s j)) 8 k l (any_yes (chains n E a s k) pos)

  pub leads_no : (a s : ℕ) → ((k : ℕ) → k < 8 → count n E a s k ≡ 0) → leads n E a s ≡ false
  unfolding leads count
  leads_no a s h = some_no (λ j. any_at_all (chains n E a s j)) 8 (λ k l. any_no (chains n E a s k) (h k l))

  pub leads_none : (a s : ℕ) → leads n E a s ≡ false → (k : ℕ) → k < 8 → count n E a s k ≡ 0
  unfolding leads count
  leads_none a s e k l = any_none (chains n E a s k) (some_none (λ j. any_at_all (chains n E a s j)) 8 e k l)

  pub leads_found : (a s : ℕ) → leads n E a s ≡ true → (k : ℕ) × (k < 8) × (0 < count n E a s k)
  unfolding leads count
  leads_found a s e =
      let found = some_found (λ j. any_at_all (chains n E a s j)) 8 e in
      (found.0, found.1, any_found (chains n E a s found.0) found.2)

  pub long_yes : (a s : ℕ) → a < n → s < n → 0 < count n E a s 8 → too_long n E ≡ true
  unfolding too_long count
  long_yes a s ha hs pos =
      some_yes (λ x. some (λ y. any_at_all (chains n E x y 8)) (below n)) n a ha
      (some_yes (λ y. any_at_all (chains n E a y 8)) n s hs (any_yes (chains n E a s 8) pos))

  pub long_no : ((a s : ℕ) → a < n → s < n → count n E a s 8 ≡ 0) → too_long n E ≡ false
  unfolding too_long count
  long_no h =
      some_no (λ x. some (λ y. any_at_all (chains n E x y 8)) (below n)) n
      (λ a ha. some_no (λ y. any_at_all (chains n E a y 8)) n (λ s hs. any_no (chains n E a s 8) (h a s ha hs)))

  pub long_none : too_long n E ≡ false → (a s : ℕ) → a < n → s < n → count n E a s 8 ≡ 0
  unfolding too_long count
  long_none e a s ha hs =
      any_none (chains n E a s 8)
      (some_none (λ y. any_at_all (chains n E a y 8)) n (some_none (λ x. some (λ y. any_at_all (chains n E x y 8)) (below n)) n e a ha) s hs)

  pub many_yes : (a s k : ℕ) → a < n → s < n → k < 8 → 99999 < count n E a s k → too_many n E ≡ true
  unfolding too_many
  many_yes a s k ha hs hk over =
      some_yes (λ x. some (λ y. some (λ j. ltb 99999 (count n E x y j)) (below 8)) (below n)) n a ha
      (some_yes (λ y. some (λ j. ltb 99999 (count n E a y j)) (below 8)) n s hs
      (some_yes (λ j. ltb 99999 (count n E a s j)) 8 k hk (lt-ltb 99999 (count n E a s k) over)))

  pub many_no : ((a s k : ℕ) → a < n → s < n → k < 8 → count n E a s k ≤ 99999) → too_many n E ≡ false
  unfolding too_many
  many_no h =
      some_no (λ x. some (λ y. some (λ j. ltb 99999 (count n E x y j)) (below 8)) (below n)) n
      (λ a ha. some_no (λ y. some (λ j. ltb 99999 (count n E a y j)) (below 8)) n
      (λ s hs. some_no (λ j. ltb 99999 (count n E a s j)) 8
      (λ k hk. le-ltb 99999 (count n E a s k) (h a s k ha hs hk))))

  pub many_none : too_many n E ≡ false → (a s k : ℕ) → a < n → s < n → k < 8 → count n E a s k ≤ 99999
  unfolding too_many
  many_none e a s k ha hs hk =
      ltb-false 99999 (count n E a s k)
      (some_none (λ j. ltb 99999 (count n E a s j)) 8
      (some_none (λ y. some (λ j. ltb 99999 (count n E a y j)) (below 8)) n
      (some_none (λ x. some (λ y. some (λ j. ltb 99999 (count n E x y j)) (below 8)) (below n)) n e a ha) s hs) k hk)

  pub long_found : too_long n E ≡ true → (a : ℕ) × (s : ℕ) × (0 < count n E a s 8)
  unfolding too_long count
  long_found e =
      let top = some_found (λ x. some (λ y. any_at_all (chains n E x y 8)) (below n)) n e in
      let end = some_found (λ y. any_at_all (chains n E top.0 y 8)) n top.2 in
      (top.0, end.0, any_found (chains n E top.0 end.0 8) end.2)

  pub many_found : too_many n E ≡ true → (a : ℕ) × (s : ℕ) × (k : ℕ) × (99999 < count n E a s k)
  unfolding too_many
  many_found e =
      let top = some_found (λ x. some (λ y. some (λ j. ltb 99999 (count n E x y j)) (below 8)) (below n)) n e in
      let end = some_found (λ y. some (λ j. ltb 99999 (count n E top.0 y j)) (below 8)) n top.2 in
      let long = some_found (λ j. ltb 99999 (count n E top.0 end.0 j)) 8 end.2 in
      (top.0, end.0, long.0, ltb-true 99999 (count n E top.0 end.0 long.0) long.2)
