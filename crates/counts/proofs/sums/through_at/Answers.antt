use Rattle.std.proofs.Common.{◌≡◌, ℕ, zero, suc, ◌+◌, ◌-◌, ◌*◌, ◌<◌, ◌≤◌, List, map, sum, sym, refl, ap, ◌∙◌, add-one, arith, rules}
use Rattle.std.proofs.lemmas.Iterator.{YieldsList-from_map, YieldsList-from_range}
use Rattle.std.proofs.lemmas.Iterator.Consumers.{fits_from_yields_list, sum_from_yields_List}
use Rattle.std.proofs.lemmas.List.FromFn.{sum_by-map-range_with_len_more}
use Rattle.std.proofs.lemmas.Nat.{mul-le}
use Rattle.std.specs.List.{range_with_len}
use borrow.Author.Tests.{tests}
use Rattle.counts.specs.Rows.{Low, at_of, through}
use Rattle.lists.specs.Lists.{sum_below}
use Rattle.lists.proofs.Sums.{sum_bound}
use Rattle.counts.proofs.sums.through_at.Goals as goal

sum_range : (h : ℕ → ℕ) (n : ℕ) → sum (map h (range_with_len 0 n)) ≡ sum_below n h
sum_range h zero = refl
sum_range h (suc n) =
    ap (λ m. sum (map h (range_with_len 0 m))) (sym (add-one n)) ∙ sum_by-map-range_with_len_more (λ x. x) h 0 n n (omega arith) ∙ ap (λ x. x + h n) (sum_range h n)

-- the products that are added up are small enough
few : (up down : List ℕ) (k : ℕ) → k < 8 → Low up → Low down → sum_below k (λ i. at_of up i * at_of down (k - 1 - i)) ≤ 69998600007
few up down k l up_low down_low =
    let most = sum_bound k (λ i. at_of up i * at_of down (k - 1 - i)) 9999800001
    (λ i u. mul-le (at_of up i) (at_of down (k - 1 - i)) 99999 99999 (up_low i (omega arith)) (down_low (k - 1 - i) (omega arith))) in
    omega arith

abbrev product : List ℕ → List ℕ → ℕ → ℕ → ℕ
product up down k i = at_of up i * at_of down (k - 1 - i)

pub sum-requires-clause-fits : goal.sum-requires-clause-fits
sum-requires-clause-fits c =
    let up = c.args.up.now in let down = c.args.down.now in let k = c.args.k in
    let most = few up down k c.requires.length c.requires.up_low c.requires.down_low in
    let all = sum_range (product up down k) k in
    fits_from_yields_list c.map.result _
    (YieldsList-from_map _ (product up down k) (YieldsList-from_range 0 k k c.map.ensures.source (omega arith)) c.map.ensures.closure (λ x r q k. search (rules, tests)))
    (omega arith)

pub returns : goal.returns
unfolding through
returns c =
    let up = c.args.up.now in let down = c.args.down.now in let k = c.args.k in
    let most = few up down k c.requires.length c.requires.up_low c.requires.down_low in
    let all : c.sum.result ≡ sum (map (product up down k) (range_with_len 0 k)) =
    sum_from_yields_List c.map.result _ c.sum.ensures.ran
    (YieldsList-from_map _ (product up down k) (YieldsList-from_range 0 k k c.map.ensures.source (omega arith)) c.map.ensures.closure (λ x r q k. search (rules, tests))) in
    let same = all ∙ sum_range (product up down k) k in
    record { sum = same; bound = omega arith }
