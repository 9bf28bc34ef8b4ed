-- Memberships, and the chains that they form. Assumes nothing.
use Rattle.std.specs.Prelude.{◌≡◌, ℕ, zero, suc, ◌-◌, ◌*◌, ◌<◌, ◌≤◌, Bool, true, false, cond, not, ◌&&◌, ◌||◌, List, [], ◌∷◌, map, length, ◌==◌}
use Rattle.lists.specs.Lists.{below, join_all, keep, sum_below}

-- A set of memberships: does the first account, a group, have the second as a member?
abbrev pub Members : Type 0
Members = ℕ → ℕ → Bool

abbrev pub no_members : Members
no_members g m = false

abbrev pub is_pair : ℕ → ℕ → ℕ → ℕ → Bool
is_pair p c g m = g == p && m == c

abbrev pub add : Members → ℕ → ℕ → Members
add E p c g m = E g m || is_pair p c g m

abbrev pub strike : Members → ℕ → ℕ → Members
strike E p c g m = E g m && not (is_pair p c g m)

-- every membership is between accounts below n
abbrev pub Within : ℕ → Members → Type 0
Within n E = (g m : ℕ) → E g m ≡ true → (g < n) × (m < n)

-- every membership of E is one of F
abbrev pub PartOf : Members → Members → Type 0
PartOf E F = (g m : ℕ) → E g m ≡ true → F g m ≡ true

-- two sets with the same memberships
abbrev pub Same : Members → Members → Type 0
Same E F = (g m : ℕ) → E g m ≡ F g m

-- A chain of length k from account a down to account s: k memberships in a row.
pub data Chain (E : Members) : ℕ → ℕ → ℕ → Type 0 where
  here : {a : ℕ} → Chain E a 0 a
  down : {a m s k : ℕ} → E a m ≡ true → Chain E m k s → Chain E a (suc k) s

-- the accounts of a chain, from the top
abbrev pub accounts : {E : Members} {a k s : ℕ} → Chain E a k s → List ℕ
accounts (here {a}) = a ∷ []
accounts (down {a} e c) = a ∷ accounts c

-- no chain of one membership or more leads from an account to itself
abbrev pub Acyclic : Members → Type 0
Acyclic E = (a k : ℕ) → Chain E a (suc k) a → ⊥

-- no chain has more than 7 memberships
abbrev pub Short : Members → Type 0
Short E = (a s k : ℕ) → Chain E a k s → k < 8

-- no chain of any length leads from c down to p
abbrev pub NoChain : Members → ℕ → ℕ → Type 0
NoChain E c p = (k : ℕ) → Chain E c k p → ⊥

-- every chain of length k from a to s among the accounts below n, each as the list of its accounts
unfoldable pub chains : ℕ → Members → ℕ → ℕ → ℕ → List (List ℕ)
chains n E a s zero = cond (a == s) ((a ∷ []) ∷ []) []
chains n E a s (suc k) = join_all (λ m. map (λ path. a ∷ path) (chains n E m s k)) (keep (E a) (below n))

unfoldable pub count : ℕ → Members → ℕ → ℕ → ℕ → ℕ
count n E a s k = length (chains n E a s k)

-- how many chains of length k from a to s go past a membership of c in p: i memberships down to p, that one, and the rest from c
abbrev pub past : ℕ → Members → ℕ → ℕ → ℕ → ℕ → ℕ → ℕ
past n E p c a s k = sum_below k (λ i. count n E a p i * count n E c s (k - suc i))

-- the sets of memberships that a book can hold
pub record Sound (n : ℕ) (E : Members) : Type 0 where
  pub within : Within n E
  pub acyclic : Acyclic E
  pub short : Short E
  pub few : (a s k : ℕ) → count n E a s k ≤ 99999

-- the membership of c in p passes every check of joining
pub record Joinable (n : ℕ) (E : Members) (p c : ℕ) : Type 0 where
  pub group : p < n
  pub member : c < n
  pub free : NoChain E c p
  pub new : E p c ≡ false
  pub short : Short (add E p c)
  pub few : (a s k : ℕ) → count n (add E p c) a s k ≤ 99999
