-- What is proved of the limits on chains and counts, and of the tests for them. Assumes nothing.
use Rattle.std.specs.Prelude.{◌≡◌, ℕ, ◌+◌, ◌<◌, ◌≤◌, true, false, ◌↔◌}
use Rattle.chains.specs.Chains.{Members, Within, Chain, Short, NoChain, Sound, add, count}
use Rattle.chains.specs.Tests.{leads, too_long, too_many}

-- chains down to p and from c that would make one of more than 7 memberships
abbrev pub LongPast : ℕ → Members → ℕ → ℕ → Type 0
LongPast n E p c =
    (a : ℕ) × (s : ℕ) × (i : ℕ) × (j : ℕ) × (a < n) × (s < n) × (i < 8) × (j < 8) × (8 ≤ i + j + 1)
    × (0 < count n E a p i) × (0 < count n E c s j)

abbrev pub TooLong : Type 0
TooLong =
    (n : ℕ) (E : Members) → Within n E → Short E → (p c : ℕ) → p < n → c < n → NoChain E c p →
    ((a : ℕ) × (s : ℕ) × (k : ℕ) × (8 ≤ k) × Chain (add E p c) a k s) ↔ LongPast n E p c

-- whether any chain is longer than 7 is told by the chains of length 8
abbrev pub ShortByEight : Type 0
ShortByEight = (n : ℕ) (E : Members) → Within n E → Short E ↔ ((a s : ℕ) → a < n → s < n → count n E a s 8 ≡ 0)

-- whether any count passes a bound is told by the accounts below n and the lengths below 8
abbrev pub FewByTable : Type 0
FewByTable =
    (n : ℕ) (E : Members) → Within n E → Short E → (b : ℕ) → 1 ≤ b →
    ((a s k : ℕ) → a < n → s < n → k < 8 → count n E a s k ≤ b) → (a s k : ℕ) → count n E a s k ≤ b

-- the test says that a chain leads from a down to s exactly if a chain of any length does
abbrev pub LeadsExactly : Type 0
LeadsExactly =
    (n : ℕ) (E : Members) → Within n E → Short E → (a s : ℕ) → (leads n E a s ≡ true) ↔ ((k : ℕ) × Chain E a k s)

-- the test says that a chain is too long exactly if some chain, of any length, is longer than 7
abbrev pub TooLongExactly : Type 0
TooLongExactly =
    (n : ℕ) (E : Members) → Within n E →
    (too_long n E ≡ true) ↔ ((a : ℕ) × (s : ℕ) × (k : ℕ) × (7 < k) × Chain E a k s)

-- the test says that a count is too large exactly if one is, between any accounts and at any length
abbrev pub TooManyExactly : Type 0
TooManyExactly =
    (n : ℕ) (E : Members) → Within n E → Short E →
    (too_many n E ≡ true) ↔ ((a : ℕ) × (s : ℕ) × (k : ℕ) × (99999 < count n E a s k))

-- a set between known accounts is one that a book can hold exactly if it passes both tests
abbrev pub SoundByTests : Type 0
SoundByTests =
    (n : ℕ) (E : Members) → Within n E → Sound n E ↔ ((too_long n E ≡ false) × (too_many n E ≡ false))
