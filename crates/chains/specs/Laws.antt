-- What is proved of chain counts. Assumes nothing.
use Rattle.std.specs.Prelude.{◌≡◌, ℕ, suc, ◌+◌, ◌*◌, ◌<◌, true, false, cond, ◌↔◌, List}
use Rattle.lists.specs.Lists.{sum_below, Listed, Once}
use Rattle.chains.specs.Chains.{Members, Within, Same, Chain, accounts, Acyclic, NoChain, PartOf, Sound, Joinable, no_members, add, strike, chains, count, past}

-- a chain begins with one membership of its top, and goes on from the member
abbrev pub Recurrence : Type 0
Recurrence =
    (n : ℕ) (E : Members) (a s k : ℕ) →
    count n E a s (suc k) ≡ sum_below n (λ m. cond (E a m) (count n E m s k) 0)

-- what is listed is what is a chain, no two chains are listed as the same, and nothing is listed twice
abbrev pub ListingIsExact : Type 0
ListingIsExact =
    (n : ℕ) (E : Members) → Within n E → (a s k : ℕ) →
    ((path : List ℕ) → Listed path (chains n E a s k) ↔ ((c : Chain E a k s) × (accounts c ≡ path)))
    × ((c d : Chain E a k s) → accounts c ≡ accounts d → c ≡ d)
    × Once (chains n E a s k)

abbrev pub CountedIsChain : Type 0
CountedIsChain = (n : ℕ) (E : Members) → Within n E → (a s k : ℕ) → (0 < count n E a s k) ↔ Chain E a k s

abbrev pub ChainsJoinAndCut : Type 0
ChainsJoinAndCut =
    (E : Members) (a s i j : ℕ) → Chain E a (i + j) s ↔ ((m : ℕ) × Chain E a i m × Chain E m j s)

-- if any chain has more than 7 memberships, some chain has exactly 8
abbrev pub LongChainHasEight : Type 0
LongChainHasEight = (E : Members) (a s k : ℕ) → 7 < k → Chain E a k s → (m : ℕ) × Chain E a 8 m

-- a new membership adds to each count the chains that go past it
abbrev pub Joining : Type 0
Joining =
    (n : ℕ) (E : Members) (p c : ℕ) → c < n → E p c ≡ false → NoChain E c p → (a s k : ℕ) →
    count n (add E p c) a s k ≡ count n E a s k + past n E p c a s k

-- the counts up to p, and those from c, are the same before and after
abbrev pub JoiningKeeps : Type 0
JoiningKeeps =
    (n : ℕ) (E : Members) (p c : ℕ) → c < n → E p c ≡ false → NoChain E c p →
    ((a i : ℕ) → count n (add E p c) a p i ≡ count n E a p i)
    × ((s j : ℕ) → count n (add E p c) c s j ≡ count n E c s j)
    × (Acyclic E → Acyclic (add E p c))

abbrev pub Leaving : Type 0
Leaving =
    (n : ℕ) (E : Members) (p c : ℕ) → c < n → E p c ≡ true → Acyclic E → (a s k : ℕ) →
    count n E a s k ≡ count n (strike E p c) a s k + past n E p c a s k

abbrev pub LeavingKeeps : Type 0
LeavingKeeps =
    (n : ℕ) (E : Members) (p c : ℕ) → c < n → E p c ≡ true → Acyclic E →
    ((a i : ℕ) → count n (strike E p c) a p i ≡ count n E a p i)
    × ((s j : ℕ) → count n (strike E p c) c s j ≡ count n E c s j)
    × Acyclic (strike E p c)

-- counts depend on the set alone, and on no order in which it came about
abbrev pub SameSetSameCounts : Type 0
SameSetSameCounts = (n : ℕ) (E F : Members) → Same E F → (a s k : ℕ) → count n E a s k ≡ count n F a s k

abbrev pub StruckAgain : Type 0
StruckAgain = (E : Members) (p c : ℕ) → (E p c ≡ false → Same (strike (add E p c) p c) E) × (E p c ≡ true → Same (add (strike E p c) p c) E)

-- whatever is accepted, the set stays one that a book can hold
abbrev pub StaysSound : Type 0
StaysSound =
    (n : ℕ) →
    Sound n no_members
    × ((E : Members) (p c : ℕ) → Sound n E → Joinable n E p c → Sound n (add E p c))
    × ((E : Members) (p c : ℕ) → Sound n E → Sound n (strike E p c))

-- the memberships of a set that a book can hold are accepted in any order
abbrev pub AnyOrder : Type 0
AnyOrder =
    (n : ℕ) (E F : Members) → Sound n F → PartOf E F → (p c : ℕ) → F p c ≡ true → E p c ≡ false →
    Joinable n E p c × PartOf (add E p c) F

-- a chain cut after i memberships, in counts; and its last membership
abbrev pub CountsCut : Type 0
CountsCut =
    (n : ℕ) (E : Members) (a s i j : ℕ) → a < n → count n E a s (i + j) ≡ sum_below n (λ m. count n E a m i * count n E m s j)

abbrev pub RecurrenceLast : Type 0
RecurrenceLast =
    (n : ℕ) (E : Members) (a s k : ℕ) → a < n → s < n →
    count n E a s (suc k) ≡ sum_below n (λ m. cond (E m s) (count n E a m k) 0)
