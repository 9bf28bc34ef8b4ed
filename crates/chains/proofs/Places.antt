-- Where the counts stand: within the table, and each at a place of its own. Assumes nothing.
use Rattle.std.proofs.Common.{◌≡◌, ℕ, ◌+◌, ◌*◌, ◌/◌, ◌%◌, ◌<◌, ◌≤◌, List, get_or, sym, ap, ◌∙◌, ⊎_elim, add-mul, one-mul, arith}
use Rattle.std.proofs.lemmas.Nat.{mul-le, mul-add-lt, div-mul-add, mod-mul-add}
use Rattle.std.proofs.lemmas.Bool.{cases_lt}
use Rattle.chains.specs.Table.{entry, place, size}

pub square_le : (m n : ℕ) → m ≤ n → size m ≤ size n
square_le m n h = omega (arith, mul-le m m n n h h)

pub row_below : (n a s : ℕ) → a < n → s < n → a * n + s < n * n
row_below n a s ha hs = mul-add-lt a n s n ha hs

pub place_below : (n a s k : ℕ) → a < n → s < n → k < 8 → place n a s k < size n
place_below n a s k ha hs hk = omega (arith, row_below n a s ha hs)

-- two rows of eight places are the same only for the same accounts
pub same_row : (n a s b t : ℕ) → s < n → t < n → a * n + s ≡ b * n + t → (a ≡ b) × (s ≡ t)
same_row n a s b t hs ht e = (
  sym (div-mul-add a n s hs) ∙ (ap (λ x. x / n) e ∙ div-mul-add b n t ht),
  sym (mod-mul-add a n s hs) ∙ (ap (λ x. x % n) e ∙ mod-mul-add b n t ht),
)

pub same_place : (n a s k b t j : ℕ) → s < n → t < n → k < 8 → j < 8 → place n a s k ≡ place n b t j → (a ≡ b) × (s ≡ t) × (k ≡ j)
same_place n a s k b t j hs ht hk hj e =
    let rows : a * n + s ≡ b * n + t = omega arith in
    let both = same_row n a s b t hs ht rows in
    (both.0, both.1, omega arith)

-- a line of n rows ends where the next begins
pub line_end : (n a b : ℕ) → a < b → a * n + n ≤ b * n
line_end n a b lt = omega (arith, mul-le (a + 1) n b n (omega arith) (omega arith), add-mul a 1 n, one-mul n)

-- what stands outside the line of a has not changed, so no other line has
pub line_kept : (t u : List ℕ) (n a : ℕ) →
    ((q : ℕ) → q < a * n * 8 → get_or u q 0 ≡ get_or t q 0) →
    ((q : ℕ) → (a * n + n) * 8 ≤ q → get_or u q 0 ≡ get_or t q 0) →
    (b s k : ℕ) → (a ≡ b → ⊥) → s < n → k < 8 → entry u n b s k ≡ entry t n b s k
line_kept t u n a before behind b s k ne hs hk =
    ⊎_elim
    (λ (lt : b < a). before (place n b s k) (omega (arith, line_end n b a lt)))
    (λ (le : a ≤ b). behind (place n b s k) (let lt : a < b = omega arith in omega (arith, line_end n a b lt)))
    (cases_lt b a)
