-- Counts of item chains as they are read: few, none longer than 7, and those that are listed. Assumes nothing.
use Rattle.std.proofs.Common.{◌≡◌, ℕ, ◌+◌, ◌*◌, ◌<◌, ◌≤◌, Bool, true, false, cond, not, ◌&&◌, ◌||◌, eqb, ltb, ◌⊎◌, List, [], ◌∷◌, length, get_or, replicate, sym, refl, ap, ◌∙◌, ap₂, inl, inr, arith}
use mathlib.Core.Path.{fun_ext}
use lib.ListN.{length-replicate, get_or-replicate}
use Rattle.std.specs.List.{AllByRecursion}
use Rattle.std.proofs.ByRecursion.{All-weaker, sum_by_le}
use Rattle.std.proofs.lemmas.List.{get_or_past}
use Rattle.std.proofs.lemmas.List.Sums.{sum_by-cons}
use Rattle.std.proofs.lemmas.Bool.{cases_lt, cond-true, cond_both, lt-ltb, ltb-true}
use Rattle.lists.proofs.Sums.{sum_same}
use Rattle.lists.proofs.Kept.{sum_by_zero}
use Rattle.chains.specs.Chains.{Members, count}
use Rattle.chains.specs.Tests.{groupless}
use Rattle.plans.specs.Counts.{row_at, row_read, CountsItems}
use Rattle.plans.specs.Items.{Items}
use Rattle.plans.specs.declared.counts.ItemCounts.{ItemCounts}
use Rattle.strategies.specs.Resolve.{same_sign}
use Rattle.strategies.specs.declared.marks.Sign.{Sign}
use Rattle.model.specs.Counted.{Lengths, listed_lengths, products, of_grant, of_grants, above_by, labelled_by, unmarked_by, of_accounts}
use Rattle.model.specs.declared.grant.Grant.{Grant}
use Rattle.model.proofs.Bounds.{all_of}
use Rattle.walked.specs.Starts.{lengths_in, given_by, started}
use Rattle.walked.proofs.Taking.{given_none}

pub read_long : (x : ItemCounts) (b : ℕ) → length (row_read x.counts b) ≡ 8
read_long x b =
    cond_both (ltb b 256) (row_at x.counts b) (replicate 8 0) (λ row. length row ≡ 8)
    (λ e. x.wide b (ltb-true b 256 e)) (λ e. length-replicate {A = ℕ} 8 0)

pub read_past : (x : ItemCounts) (b k : ℕ) → 8 ≤ k → lengths_in x.counts b k ≡ 0
read_past x b k l = get_or_past (row_read x.counts b) k 0 (omega (arith, read_long x b))

pub read_few : (x : ItemCounts) (b k : ℕ) → lengths_in x.counts b k ≤ 128
read_few x b k =
    cond_both (ltb b 256) (row_at x.counts b) (replicate 8 0) (λ row. get_or row k 0 ≤ 128)
    (λ e. x.few b k (ltb-true b 256 e)) (λ e. split (cases_lt k 8))
  where
    split : (k < 8) ⊎ (8 ≤ k) → get_or (replicate 8 0) k 0 ≤ 128
    split (inl l) = omega (arith, get_or-replicate {A = ℕ} 8 k 0 0 l)
    split (inr l) = omega (arith, get_or_past {X = ℕ} (replicate 8 0) k 0 l)

-- an account starts with at most 128 arrivals for each grant
pub started_few : (x : ItemCounts) (grants : List Grant) (r a : ℕ) (sign : Sign) (d : ℕ) → started grants (lengths_in x.counts) r a sign d ≤ length grants * 128
unfolding started
started_few x grants r a sign d =
    sum_by_le (given_by L r a sign d) 128 grants (all_of (λ g. given_by L r a sign d g ≤ 128) (λ g. under (eqb g.account a && (eqb g.right r && same_sign sign g.sign)) (L g.item d) (read_few x g.item d)) grants)
  where
    L : Lengths
    L = lengths_in x.counts

    under : (t : Bool) (y : ℕ) → y ≤ 128 → cond t y 0 ≤ 128
    under true y l = l
    under false y l = omega arith

-- none at a distance past 7
pub started_past : (L : Lengths) → ((b k : ℕ) → 8 ≤ k → L b k ≡ 0) → (grants : List Grant) (r a : ℕ) (sign : Sign) (d : ℕ) → 8 ≤ d → started grants L r a sign d ≡ 0
unfolding started
started_past L none grants r a sign d l = sum_by_zero (given_by L r a sign d) (λ g. given_none L g a r sign d (none g.item d l)) grants

-- lengths that agree on the items of grants
abbrev pub Agree : Lengths → Lengths → List Grant → Type 0
Agree L K grants = AllByRecursion (λ g. (k : ℕ) → L g.item k ≡ K g.item k) grants

pub read_listed : (I : Items) (o : ℕ) (x : ItemCounts) → CountsItems I o x.counts → (grants : List Grant) → AllByRecursion (λ g. g.item < 256) grants →
    Agree (lengths_in x.counts) (listed_lengths I o) grants
read_listed I o x counts grants small =
    All-weaker (λ g. g.item < 256) (λ g. (k : ℕ) → lengths_in x.counts g.item k ≡ listed_lengths I o g.item k)
    (λ g l k. ap (λ row. get_or row k 0) (cond-true (ltb g.item 256) (row_at x.counts g.item) (replicate 8 0) (lt-ltb g.item 256 l)) ∙ counts g.item k l)
    grants small

pub of_grants_same : (n : ℕ) (E : Members) (L K : Lengths) (s r : ℕ) (sign : Sign) (d : ℕ) (grants : List Grant) → Agree L K grants →
    of_grants n E grants L s r sign d ≡ of_grants n E grants K s r sign d
unfolding of_grants of_grant
of_grants_same n E L K s r sign d [] same = refl
of_grants_same n E L K s r sign d (g ∷ gs) same =
    sum_by-cons (of_grant n E L s r sign d) g gs
    ∙ ap₂ (λ x y. x + y)
    (ap (λ (f : ℕ → ℕ). cond (eqb g.right r && same_sign sign g.sign) (products (count n E g.account s) f d) 0) (fun_ext (λ k. same.0 k)))
    (of_grants_same n E L K s r sign d gs same.1)
    ∙ sym (sum_by-cons (of_grant n E K s r sign d) g gs)

labelled_same : (L K : Lengths) (r a : ℕ) (grants : List Grant) → Agree L K grants → labelled_by grants L r a ≡ labelled_by grants K r a
unfolding labelled_by above_by
labelled_same L K r a [] same = refl
labelled_same L K r a (g ∷ gs) same =
    ap₂ (λ x y. x || y)
    (ap (λ (f : ℕ → ℕ). eqb g.account a && (eqb g.right r && above_by (λ b. f) g.item)) (fun_ext (λ k. same.0 k)))
    (labelled_same L K r a gs same.1)

pub of_accounts_same : (n : ℕ) (E : Members) (L K : Lengths) (s r d : ℕ) (grants : List Grant) → Agree L K grants →
    of_accounts n E grants L s r d ≡ of_accounts n E grants K s r d
unfolding of_accounts unmarked_by
of_accounts_same n E L K s r d grants same =
    sum_same n (λ a. cond (unmarked_by n E grants L r a) (cond (ltb d 8) (count n E a s d) 0) 0)
    (λ a. cond (unmarked_by n E grants K r a) (cond (ltb d 8) (count n E a s d) 0) 0)
    (λ a l. ap (λ t. cond (groupless n E a && not t) (cond (ltb d 8) (count n E a s d) 0) 0) (labelled_same L K r a grants same))
