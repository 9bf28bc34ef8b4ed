-- What a walk over chains lists. Assumes nothing.
use Rattle.std.specs.Prelude.{◌≡◌, ℕ, zero, suc, ◌+◌, List, [], ◌∷◌, ◌++◌, Result, Ok, Vec}
use Rattle.std.specs.Vec.{vec_items}
use Rattle.lister.specs.declared.every_chain.Chain.{Chain}

-- a chain that has come to an account or item, and how long it is
abbrev pub chain : ℕ → ℕ → Chain
chain at long = record { end = at; length = long }

-- the first chain listed is the one of length 0, which ends where it begins
abbrev pub BeginsAt : ℕ → List Chain → Type 0
BeginsAt from found = (rest : List Chain) × (found ≡ chain from 0 ∷ rest)

-- what is listed for each of some numbers, one after the other
unfoldable pub Each : (ℕ → List Chain → Type 0) → List ℕ → List Chain → Type 0
Each Listed [] found = found ≡ []
Each Listed (at ∷ others) found = (first : List Chain) × (rest : List Chain) × (found ≡ first ++ rest) × Listed at first × Each Listed others rest

-- the chain that has come to `at`, and then each that goes on from there, at most `left` steps more; `onward` is what may be answered for a number: those one step further on
unfoldable pub Walked : {Z E : Type 0} → (ℕ → Result (Vec ℕ Z) E → Type 0) → ℕ → ℕ → ℕ → List Chain → Type 0
Walked onward zero at long found = found ≡ chain at long ∷ []
Walked {Z} onward (suc left) at long found =
    (next : Vec ℕ Z) × (rest : List Chain) × onward at (Ok next) × (found ≡ chain at long ∷ rest)
    × Each (λ further. Walked onward left further (long + 1)) (vec_items next) rest
