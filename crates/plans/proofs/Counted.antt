-- A finished table of item chain counts. Assumes nothing.
use Rattle.std.proofs.Common.{◌≡◌, ℕ, zero, suc, ◌^◌, ◌<◌, ◌≤◌, eqb, List, length, sum_by, sym, ap, ◌∙◌, ⊎_elim, arith, pow_mono}
use Rattle.std.proofs.lemmas.List.{get_or_past}
use Rattle.std.proofs.lemmas.Bool.{ne_eqb, cases_lt, cases_Bool, cond-false}
use Rattle.plans.specs.Items.{Items, Lawful, item_chains}
use Rattle.plans.specs.Counts.{row_at, entry, CountsItems}
use Rattle.plans.specs.Above.{Passed}
use Rattle.plans.proofs.ItemChains.{chains_step, chains_start, chains_few, none_longer}
use Rattle.plans.proofs.PassUp.{ahead_none}

-- with every item passed, each number counts the chains of its length, and none is longer than a row
pub passed_end : (M : Items) → Lawful M → (o : ℕ) (t : List (List ℕ)) → ((b : ℕ) → b < 256 → length (row_at t b) ≡ 8) → Passed M o 0 (entry t) → CountsItems M o t
passed_end M lawful o t wide done b k lb = ⊎_elim (λ l. at k l) past (cases_lt k 8)
  where
    at : (k : ℕ) → k < 8 → entry t b k ≡ length (item_chains M b o k)
    at zero lk = done.start b lb ∙ sym (chains_start M b o)
    at (suc k) lk = let all = done.more b k lb (omega arith) in let none = ahead_none M o b k in omega arith

    past : 8 ≤ k → entry t b k ≡ length (item_chains M b o k)
    past l = let row = wide b lb in get_or_past (row_at t b) k 0 (omega arith) ∙ sym (none_longer M lawful b o k l)

-- to an unknown item nothing leads from another
pub none_outside : (M : Items) → Lawful M → (b o k : ℕ) → b < 256 → 256 ≤ o → length (item_chains M b o k) ≡ 0
none_outside M lawful b o zero lb lo = chains_start M b o ∙ cond-false (eqb b o) 1 0 (ne_eqb b o (λ e. omega arith))
none_outside M lawful b o (suc k) lb lo =
    chains_step M b o k ∙ ap (sum_by (λ c. length (item_chains M b c k))) (⊎_elim (λ e. absurd (let s = lawful.small o e in omega arith)) (lawful.unknown o) (cases_Bool (M.known o)))

-- 256 rows of 8 numbers
pub record Full (t : List (List ℕ)) : Type 0 where
  pub rows : length t ≡ 256
  pub wide : (b : ℕ) → b < 256 → length (row_at t b) ≡ 8

-- nothing is counted
pub record Empty (t : List (List ℕ)) : Type 0 where
  pub full : Full t
  pub none : (b k : ℕ) → b < 256 → k < 8 → entry t b k ≡ 0

-- behind its eight numbers a row has none
row_end : (t : List (List ℕ)) → Full t → (b k : ℕ) → b < 256 → 8 ≤ k → entry t b k ≡ 0
row_end t full b k lb l = let wide = full.wide b lb in get_or_past (row_at t b) k 0 (omega arith)

-- an empty table counts what leads to such an item
pub outside_counts : (M : Items) → Lawful M → (o : ℕ) (t : List (List ℕ)) → Empty t → 256 ≤ o → CountsItems M o t
outside_counts M lawful o t empty lo b k lb =
    ⊎_elim (λ l. empty.none b k lb l) (λ l. row_end t empty.full b k lb l) (cases_lt k 8) ∙ sym (none_outside M lawful b o k lb lo)

-- no number passes 128
pub counts_few : (M : Items) → Lawful M → (o : ℕ) (t : List (List ℕ)) → CountsItems M o t → (b k : ℕ) → b < 256 → entry t b k ≤ 128
counts_few M lawful o t counted b k lb =
    let here = counted b k lb in
    ⊎_elim (λ l. let most : k ≤ 7 = omega arith in let bound : 2 ^ k ≤ 2 ^ 7 = pow_mono most in let few = chains_few M lawful k b o in omega arith)
    (λ l. let none = none_longer M lawful b o k l in omega arith) (cases_lt k 8)
