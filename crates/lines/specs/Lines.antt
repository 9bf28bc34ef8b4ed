-- What a line of an access list says, or its first fault. Assumes nothing.
use Rattle.std.specs.Prelude.{ℕ, ◌+◌, ◌-◌, cond, not, ◌&&◌, List, [], ◌∷◌, length, take, drop, is_some, Ok, Err, Option, Result, ◌==◌}
use Rattle.fields.specs.declared.faults.FieldCause.TheVariants.{Number}
use Rattle.fields.specs.declared.faults.FieldFault.{FieldFault}
use Rattle.model.specs.declared.access.Access.{Access}
use Rattle.lines.specs.declared.faults.LineFault.{LineFault}
use Rattle.lines.specs.declared.faults.LineFault.TheVariants.{Length, Letter, Field}
use Rattle.lines.specs.declared.line.Line.{Line}
use Rattle.lines.specs.declared.line.Line.TheVariants.{Join, Leave, Give, Withdraw, Ask, Equip, Choose}
use Rattle.fields.specs.Checks.{then, number_in, blanks_from, is_blank, optional_in, sign_in, name_in}

-- the columns from .. to of a line, of which rest stands behind column 1
abbrev pub at_columns : ℕ → ℕ → List ℕ → List ℕ
at_columns from to rest = take (to + 1 - from) (drop (from - 2) rest)

-- a field's fault as the line's
abbrev pub raised : {A : Type 0} → Result A FieldFault → Result A LineFault
raised (Ok x) = Ok x
raised (Err f) = Err (Field f)

-- two numbers, and blanks behind them
abbrev pub pair_of : List ℕ → Result (ℕ × ℕ) FieldFault
pair_of rest =
    then (number_in (at_columns 2 6 rest) 2) (λ a.
    then (number_in (at_columns 7 11 rest) 7) (λ b.
    then (blanks_from 12 (at_columns 12 18 rest)) (λ _. Ok (a, b))))

-- an account, an item and a right, and a blank behind them
abbrev pub access_of : List ℕ → Result Access FieldFault
access_of rest =
    then (number_in (at_columns 2 6 rest) 2) (λ a.
    then (number_in (at_columns 7 11 rest) 7) (λ b.
    then (number_in (at_columns 12 16 rest) 12) (λ c.
    then (blanks_from 17 (at_columns 17 17 rest)) (λ _. Ok (record { account = a; item = b; right = c })))))

-- an access, and nothing behind it
abbrev pub access_alone_of : List ℕ → Result Access FieldFault
access_alone_of rest = then (access_of rest) (λ t. then (blanks_from 18 (at_columns 18 18 rest)) (λ _. Ok t))

-- a second container may not stand behind a blank first
abbrev pub containers_of : List ℕ → Result (Option ℕ × Option ℕ) FieldFault
containers_of rest =
    then (optional_in (at_columns 7 11 rest) 7) (λ a.
    cond (not (is_some a) && not (is_blank (at_columns 12 16 rest)))
    (Err (record { cause = Number; column = 7 }))
    (then (optional_in (at_columns 12 16 rest) 12) (λ b. Ok (a, b))))

-- what the lines say, each behind its letter: J
abbrev pub join_of : List ℕ → Result Line FieldFault
join_of rest = then (pair_of rest) (λ p. Ok (Join p.0 p.1))

-- L
abbrev pub leave_of : List ℕ → Result Line FieldFault
leave_of rest = then (pair_of rest) (λ p. Ok (Leave p.0 p.1))

-- G: the sign stands in column 18
abbrev pub give_of : List ℕ → Result Line FieldFault
give_of rest =
    then (access_of rest) (λ t. then (sign_in (at_columns 18 18 rest) 18) (λ s.
    Ok (Give (record { account = t.account; item = t.item; right = t.right; sign = s }))))

-- W
abbrev pub withdraw_of : List ℕ → Result Line FieldFault
withdraw_of rest = then (access_alone_of rest) (λ t. Ok (Withdraw t))

-- Q
abbrev pub ask_of : List ℕ → Result Line FieldFault
ask_of rest = then (access_alone_of rest) (λ t. Ok (Ask t))

-- E
abbrev pub equip_of : List ℕ → Result Line FieldFault
equip_of rest =
    then (number_in (at_columns 2 6 rest) 2) (λ item.
    then (containers_of rest) (λ cs.
    then (blanks_from 17 (at_columns 17 18 rest)) (λ _. Ok (Equip item cs.0 cs.1))))

-- S: the name stands in columns 13 to 18
abbrev pub choose_of : List ℕ → Result Line FieldFault
choose_of rest =
    then (blanks_from 2 (at_columns 2 12 rest)) (λ _.
    then (name_in (at_columns 13 18 rest) 13) (λ s. Ok (Choose s)))

-- the letter, one of J L G W Q E S, and what stands behind it
abbrev pub command_of : ℕ → List ℕ → Result Line LineFault
command_of c rest =
    cond (c == 74) (raised (join_of rest))
    (cond (c == 76) (raised (leave_of rest))
    (cond (c == 71) (raised (give_of rest))
    (cond (c == 87) (raised (withdraw_of rest))
    (cond (c == 81) (raised (ask_of rest))
    (cond (c == 69) (raised (equip_of rest))
    (cond (c == 83) (raised (choose_of rest))
    (Err Letter)))))))

-- a line of 18 bytes
abbrev pub line_of : List ℕ → Result Line LineFault
line_of [] = Err Length
line_of (c ∷ rest) = cond (length rest == 17) (command_of c rest) (Err Length)
