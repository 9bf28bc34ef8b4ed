-- What the bytes of a field spell. Blanks are 32, the digits 48 to 57. Assumes nothing.
use Rattle.std.specs.Prelude.{ℕ, ◌+◌, ◌-◌, ◌*◌, Bool, cond, ◌&&◌, List, [], ◌∷◌, length, Some, None, Option, ◌==◌, nat_le}

abbrev pub is_digit : ℕ → Bool
is_digit c = nat_le 48 c && nat_le c 57

-- the number that digits write behind those that make n; none if a byte is no digit
abbrev pub digits_after : ℕ → List ℕ → Option ℕ
digits_after n [] = Some n
digits_after n (c ∷ cs) = cond (is_digit c) (digits_after (n * 10 + (c - 48)) cs) None

-- a number has at most nine digits, and no zero in front of others
abbrev pub plain_number : List ℕ → Option ℕ
plain_number [] = None
plain_number (c ∷ []) = digits_after 0 (c ∷ [])
plain_number (c ∷ d ∷ cs) =
    cond (c == 48) None (cond (nat_le (length (c ∷ d ∷ cs)) 9) (digits_after 0 (c ∷ d ∷ cs)) None)

-- what stands behind the leading blanks
abbrev pub past_blanks : List ℕ → List ℕ
past_blanks [] = []
past_blanks (c ∷ cs) = cond (c == 32) (past_blanks cs) (c ∷ cs)

-- the number that stands right-justified in a field
abbrev pub field_number : List ℕ → Option ℕ
field_number bs = plain_number (past_blanks bs)
