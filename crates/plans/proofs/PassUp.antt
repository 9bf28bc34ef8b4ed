-- One item's chains passed up to its containers. Assumes nothing.
use Rattle.std.proofs.Common.{◌≡◌, ℕ, zero, suc, ◌+◌, ◌*◌, ◌^◌, ◌<◌, ◌≤◌, Bool, true, false, cond, eqb, List, [], ◌∷◌, length, sym, refl, ap, ◌∙◌, mul-zero, zero-add, zero-mul, mul-one, mul-add, add-one, arith, pow_mono}
use Rattle.std.proofs.lemmas.List.Sums.{sum_by-cons}
use Rattle.std.proofs.lemmas.Bool.{eq-eqb, cond-true}
use Rattle.plans.specs.Items.{Items, Lawful, item_chains}
use Rattle.plans.specs.Above.{Lengths, times, ahead, Passing, Passed, Lengthened}
use Rattle.plans.proofs.ItemChains.{chains_start, chains_few}
use Rattle.plans.proofs.FirstStep.{first_step, none_ahead, times_none}

times_more : (b c : ℕ) (rest : List ℕ) → times b (c ∷ rest) ≡ cond (eqb b c) 1 0 + times b rest
unfolding times
times_more b c rest = sum_by-cons (λ c. cond (eqb b c) 1 0) c rest

times_end : (b : ℕ) → times b [] ≡ 0
unfolding times
times_end b = refl

ahead_more : (M : Items) (o x b k : ℕ) → ahead M o (suc x) b k ≡ ahead M o x b k + length (item_chains M x o k) * times b (M.containers x)
unfolding ahead
ahead_more M o x b k = refl

pub ahead_none : (M : Items) (o b k : ℕ) → ahead M o 0 b k ≡ 0
unfolding ahead
ahead_none M o b k = refl

pub passing_start : (M : Items) → Lawful M → (o x : ℕ) (L : Lengths) → Passed M o (x + 1) L → Passing M o x (M.containers x) L
passing_start M lawful o x L done = record {
  lower = lawful.lower x;
  start = done.start;
  more = λ b k lb lk.
      ap (λ z. L b (suc k) + z) (sym (ap (λ z. ahead M o z b k) (add-one x) ∙ ahead_more M o x b k)) ∙ done.more b k lb lk;
}

pub passing_end : (M : Items) (o x : ℕ) (L : Lengths) → Passing M o x [] L → Passed M o x L
passing_end M o x L half = record {
  start = half.start;
  more = λ b k lb lk.
      let none = ap (λ z. length (item_chains M x o k) * z) (times_end b) ∙ mul-zero (length (item_chains M x o k)) in
      let all = half.more b k lb lk in
      omega arith;
}

-- the chains from x itself are all counted
pub own_row : (M : Items) → Lawful M → (o x : ℕ) (rest : List ℕ) (L : Lengths) → x < 256 → Passing M o x rest L → (k : ℕ) → k < 8 → L x k ≡ length (item_chains M x o k)
own_row M lawful o x rest L small half zero l = half.start x small ∙ sym (chains_start M x o)
own_row M lawful o x rest L small half (suc k) l =
    let all = half.more x k small (omega arith) in
    let above = none_ahead M lawful o x x k (omega arith) in
    let left = ap (λ z. length (item_chains M x o k) * z) (times_none x rest half.lower) ∙ mul-zero (length (item_chains M x o k)) in
    omega arith

-- a container of x, and those behind it
module _ (M : Items) (lawful : Lawful M) (o x c : ℕ) (rest : List ℕ) (L : Lengths) (small : x < 256) (half : Passing M o x (c ∷ rest) L) where
  left_more : (b k : ℕ) →
      length (item_chains M x o k) * times b (c ∷ rest)
      ≡ cond (eqb b c) (length (item_chains M x o k)) 0 + length (item_chains M x o k) * times b rest
  left_more b k =
      ap (λ z. length (item_chains M x o k) * z) (times_more b c rest)
      ∙ mul-add (length (item_chains M x o k)) (cond (eqb b c) 1 0) (times b rest)
      ∙ ap (λ z. z + length (item_chains M x o k) * times b rest) (one (eqb b c))
    where
      one : (u : Bool) → length (item_chains M x o k) * cond u 1 0 ≡ cond u (length (item_chains M x o k)) 0
      one true = mul-one (length (item_chains M x o k))
      one false = mul-zero (length (item_chains M x o k))

  pub passing_fits : (k : ℕ) → k < 7 → L c (suc k) + L x k ≤ 128
  passing_fits k l =
      let low = half.lower.0 in
      let all = half.more c k (omega arith) l in
      let own = own_row M lawful o x (c ∷ rest) L small half k (omega arith) in
      let left : length (item_chains M x o k) * times c (c ∷ rest) ≡ length (item_chains M x o k) + length (item_chains M x o k) * times c rest =
      left_more c k
      ∙ ap (λ z. z + length (item_chains M x o k) * times c rest)
      (cond-true (eqb c c) (length (item_chains M x o k)) 0 (eq-eqb c c refl)) in
      let few = chains_few M lawful (suc k) c o in
      let most : suc k ≤ 7 = omega arith in
      let bound : 2 ^ suc k ≤ 2 ^ 7 = pow_mono most in
      omega arith

  pub passing_more : (K : Lengths) → Lengthened x c L K → Passing M o x rest K
  passing_more K longer = record {
    lower = half.lower.1;
    start = λ b lb. longer.start b lb ∙ half.start b lb;
    more = λ b k lb lk.
        let now : K b (suc k) ≡ L b (suc k) + cond (eqb b c) (length (item_chains M x o k)) 0 =
        longer.more b k lb lk ∙ ap (λ z. L b (suc k) + cond (eqb b c) z 0) (own_row M lawful o x (c ∷ rest) L small half k (omega arith)) in
        let all = half.more b k lb lk in
        let left = left_more b k in
        omega arith;
  }

-- at first only the item itself has a chain to it
pub passed_start : (M : Items) → Lawful M → (o : ℕ) → o < 256 → (L : Lengths) → ((b : ℕ) → b < 256 → L b 0 ≡ cond (eqb b o) 1 0) →
    ((b k : ℕ) → b < 256 → k < 7 → L b (suc k) ≡ 0) → Passed M o (o + 1) L
unfolding ahead
passed_start M lawful o l L first none = record {
  start = first;
  more = λ b k lb lk.
      ap (λ z. z + ahead M o (o + 1) b k) (none b k lb lk)
      ∙ zero-add (ahead M o (o + 1) b k)
      ∙ sym (first_step M lawful k b o (o + 1) (omega arith));
}

-- an item from which nothing leads down has nothing to pass up
pub passed_over : (M : Items) → Lawful M → (o x : ℕ) (L : Lengths) → x < 256 → Passed M o (x + 1) L → ((k : ℕ) → k < 8 → L x k ≡ 0) → Passed M o x L
passed_over M lawful o x L small done empty = record {
  start = done.start;
  more = λ b k lb lk.
      let half = passing_start M lawful o x L done in
      let own = own_row M lawful o x (M.containers x) L small half k (omega arith) in
      let none = empty k (omega arith) in
      let gone : length (item_chains M x o k) * times b (M.containers x) ≡ 0 =
      ap (λ z. z * times b (M.containers x)) (sym own ∙ none) ∙ zero-mul (times b (M.containers x)) in
      let all = done.more b k lb lk in
      let step = ap (λ z. ahead M o z b k) (add-one x) ∙ ahead_more M o x b k in
      omega arith;
}
