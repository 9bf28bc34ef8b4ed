-- In distances the walk finds the least one. Assumes nothing.
use Rattle.std.proofs.Common.{◌≡◌, ℕ, zero, suc, ◌+◌, ◌<◌, ◌≤◌, min, List, [], ◌∷◌, map, Option, Some, None, IsSomeAnd, sym, refl, ap, ◌∙◌, subst, ⊎_elim, arith}
use mathlib.Core.List.Memᴰ
use mathlib.Core.List.{Memᴰ}
use Rattle.std.proofs.lemmas.Bool.{cases_lt}
use Rattle.lists.specs.Lists.{below}
use Rattle.chains.specs.Chains.{Members, Within, Chain, chains, count}
use Rattle.chains.proofs.Listing.{below_has, below_bound, counted_is_chain, chain_is_counted}
use Rattle.chains.proofs.Steps.{chain_top_known}
use Rattle.walk.specs.Weights.{total, times, arriving, arrivals}
use Rattle.walk.specs.Least.{none, lesser, further}
use Rattle.walk.specs.Distances.{step_on, step_off}
use Rattle.walk.specs.Meaning.{Nearest}
use Rattle.walk.proofs.Listed.{join_in, join_out, each_in, each_out}

lesser_left : (x : ℕ) (r : Option ℕ) → IsSomeAnd (lesser (Some x) r) (λ y. y ≤ x)
lesser_left x None = omega arith
lesser_left x (Some y) = omega arith

lesser_right : (v r : Option ℕ) (x : ℕ) → IsSomeAnd r (λ y. y ≤ x) → IsSomeAnd (lesser v r) (λ y. y ≤ x)
lesser_right None r x h = h
lesser_right (Some z) None x h = absurd h
lesser_right (Some z) (Some y) x h = omega arith

-- the sum of distances is no more than any of them
total_le : (ws : List (Option ℕ)) {x : ℕ} → Memᴰ (Some x) ws → IsSomeAnd (total none lesser ws) (λ y. y ≤ x)
total_le [] m = absurd (Memᴰ.not-nil m)
total_le (v ∷ ws) {x} (Memᴰ.head e) = subst (λ u. IsSomeAnd (lesser u (total none lesser ws)) (λ y. y ≤ x)) e (lesser_left x (total none lesser ws))
total_le (v ∷ ws) {x} (Memᴰ.tail m) = lesser_right v (total none lesser ws) x (total_le ws m)

-- and is one of them
total_some : (ws : List (Option ℕ)) (y : ℕ) → total none lesser ws ≡ Some y → Memᴰ (Some y) ws
total_some [] y h = absurd (cc)
total_some (None ∷ ws) y h = Memᴰ.tail (total_some ws y h)
total_some (Some z ∷ ws) y h = go (total none lesser ws) (λ e. total_some ws y e) h
  where
    go : (r : Option ℕ) → (r ≡ Some y → Memᴰ (Some y) ws) → lesser (Some z) r ≡ Some y → Memᴰ (Some y) (Some z ∷ ws)
    go None later h' = Memᴰ.head (sym h')
    go (Some u) later h' =
        let least : min z u ≡ y = cc in
        ⊎_elim (λ l. let same : u ≡ y = omega arith in Memᴰ.tail (later (ap (λ n. Some n) same)))
        (λ g. let same : y ≡ z = omega arith in Memᴰ.head (ap (λ n. Some n) same)) (cases_lt u z)

-- k steps, forward and back
further_times : (k x : ℕ) → x + k ≤ 254 → times further k (Some x) ≡ Some (x + k)
further_times zero x h = let e : x ≡ x + 0 = omega arith in ap (λ n. Some n) e
further_times (suc k) x h =
    let e : x + k + 1 ≡ x + suc k = omega arith in
    ap further (further_times k x (omega arith)) ∙ step_on (x + k) (omega arith) ∙ ap (λ n. Some n) e

further_back : (w : Option ℕ) (y : ℕ) → further w ≡ Some y → (x : ℕ) × (w ≡ Some x) × (y ≡ x + 1)
further_back None y h = absurd (cc)
further_back (Some x) y h =
    ⊎_elim (λ l. let there = step_on x l in let e : x + 1 ≡ y = cc in (x, refl, sym e)) (λ g. let none = step_off x g in absurd (cc)) (cases_lt x 254)

times_back : (k : ℕ) (w : Option ℕ) (y : ℕ) → times further k w ≡ Some y → (x : ℕ) × (w ≡ Some x) × (y ≡ x + k)
times_back zero w y h = (y, h, omega arith)
times_back (suc k) w y h =
    let last = further_back (times further k w) y h in
    let rest = times_back k w last.0 last.1 in
    (rest.0, rest.1, omega (arith, last.2, rest.2))

module _ (n : ℕ) (E : Members) (w : Within n E) (start : ℕ → Option ℕ) (s : ℕ) (known : s < n) where
  listed : (a k : ℕ) → k ≤ 7 → Chain E a k s → Memᴰ (times further k (start a)) (arrivals further n E start s 8)
  unfolding arrivals count
  listed a k short c =
      join_in (arriving further n E start s) (below 8) (below_has 8 k (omega arith))
      (join_in (λ b. map (λ path. times further k (start b)) (chains n E b s k)) (below n) (below_has n a (chain_top_known w known c))
      (each_in (times further k (start a)) (chains n E a s k) (chain_is_counted n E w c)))

  from_list : {x : Option ℕ} → Memᴰ x (arrivals further n E start s 8) → (a : ℕ) × (k : ℕ) × (k ≤ 7) × Chain E a k s × (x ≡ times further k (start a))
  unfolding arrivals count
  from_list m =
      let long = join_out (arriving further n E start s) (below 8) m in
      let k = long.0 in
      let top = join_out (λ b. map (λ path. times further k (start b)) (chains n E b s k)) (below n) long.2 in
      let last = each_out (times further k (start top.0)) (chains n E top.0 s k) top.2 in
      let short : k < 8 = below_bound 8 k long.1 in
      (top.0, k, omega arith, counted_is_chain n E top.0 s k last.0, last.1)

  least : (a x k : ℕ) → start a ≡ Some x → k ≤ 7 → Chain E a k s → x + k ≤ 254 → IsSomeAnd (total none lesser (arrivals further n E start s 8)) (λ y. y ≤ x + k)
  least a x k e short c low =
      let ws = arrivals further n E start s 8 in
      total_le ws (subst (λ w. Memᴰ w ws) (ap (times further k) e ∙ further_times k x low) (listed a k short c))

  pub nearest : Nearest E start s (total none lesser (arrivals further n E start s 8))
  nearest = record {
    least = least;
    every = λ short a x k e c low. let l = short a s k c in least a x k e (omega arith) c low;
    reached = λ y h.
        let o = from_list (total_some (arrivals further n E start s 8) y h) in
        let top = times_back o.1 (start o.0) y (sym o.4) in
        (o.0, top.0, o.1, o.2, o.3, top.1, top.2);
  }
