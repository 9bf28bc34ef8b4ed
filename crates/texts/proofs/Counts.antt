-- How many lines a text has. Assumes nothing.
use Rattle.std.proofs.Common.{ℕ, ◌+◌, ◌≤◌, eqb, List, [], ◌∷◌, length, ⊎_elim, arith}
use Rattle.std.proofs.lemmas.Bool.{cases_Bool}
use Rattle.texts.specs.Lines.{onto, lines_of}

one_more : (c : ℕ) (ls : List (List ℕ)) → length (onto c ls) ≤ length ls + 1
one_more c [] = omega arith
one_more c (l ∷ ls) = omega arith

-- no more lines than bytes
pub lines_at_most : (text : List ℕ) → length (lines_of text) ≤ length text
lines_at_most [] = omega arith
lines_at_most (c ∷ cs) =
    ⊎_elim
    (λ p. rw p (omega (arith, lines_at_most cs)))
    (λ p. rw p (omega (arith, lines_at_most cs, one_more c (lines_of cs))))
    (cases_Bool (eqb c 10))
