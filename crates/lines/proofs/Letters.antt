-- A line's letter and the rest of it. Assumes nothing.
use Rattle.std.proofs.Common.{◌≡◌, ℕ, ◌-◌, ◌≤◌, eqb, List, [], ◌∷◌, length, get_or, take, drop, Err, sym, refl, ap, ◌∙◌, arith}
use Rattle.std.proofs.lemmas.List.{take_rest}
use Rattle.std.proofs.lemmas.Bool.{eq-eqb, ne_eqb, cond-true, cond-false}
use Rattle.lines.specs.declared.faults.LineFault.TheVariants.{Length, Letter}
use Rattle.lines.specs.Lines.{command_of, line_of}

pub no_command : (c : ℕ) (rest : List ℕ) → (c ≡ 74 → ⊥) → (c ≡ 76 → ⊥) → (c ≡ 71 → ⊥) → (c ≡ 87 → ⊥) → (c ≡ 81 → ⊥) → (c ≡ 69 → ⊥) → (c ≡ 83 → ⊥) → Err Letter ≡ command_of c rest
no_command c rest j l g w q e s =
    rw (ne_eqb c 74 j, ne_eqb c 76 l, ne_eqb c 71 g, ne_eqb c 87 w, ne_eqb c 81 q, ne_eqb c 69 e, ne_eqb c 83 s)

pub line_parts : (line : List ℕ) → 1 ≤ length line → length (take (length line - 1) (drop 1 line)) ≡ 17 → line_of line ≡ command_of (get_or line 0 0) (take (length line - 1) (drop 1 line))
line_parts [] h e = absurd (omega arith)
line_parts (c ∷ rest) h e =
    let all = take_rest (c ∷ rest) 1 in
    cond-true (eqb (length rest) 17) _ _ (eq-eqb (length rest) 17 (sym (ap length all) ∙ e)) ∙ ap (command_of c) (sym all)

pub not_18 : (line : List ℕ) → (length (take (length line - 1) (drop 1 line)) ≡ 17 → ⊥) → Err Length ≡ line_of line
not_18 [] h = refl
not_18 (c ∷ rest) h =
    let all = take_rest (c ∷ rest) 1 in
    sym (cond-false (eqb (length rest) 17) _ _ (ne_eqb (length rest) 17 (λ e. h (ap length all ∙ e))))
