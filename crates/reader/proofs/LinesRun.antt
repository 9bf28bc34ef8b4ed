-- A list run line by line: what one line does to the output that is still to come. Assumes nothing.
use Rattle.std.proofs.Common.{◌≡◌, ℕ, ◌+◌, List, [], ◌∷◌, ◌++◌, Some, None, Ok, Err, Result, sym, refl, ap, ◌∙◌, ap₂, arith}
use Rattle.lines.specs.declared.line.Line.{Line}
use Rattle.output.specs.declared.outcome.Outcome.{Outcome}
use Rattle.output.specs.declared.outcome.Outcome.TheVariants.{Faulty}
use Rattle.reader.specs.Lists.{ListFault, first_said, one_more, said_behind, tail}
use Rattle.output.specs.Output.{output_line}
use Rattle.reader.specs.Sessions.{Session, lines_output, outcome_of, session_after}

-- what the first of some lines tells of all of them
pub ended : (rs : List (Result Line ListFault)) → Ok None ≡ first_said rs → rs ≡ []
ended [] e = refl
ended (Ok line ∷ rs) e = let wrong : ◌≡◌ {A = ℕ} 0 1 = cc in absurd (omega arith)
ended (Err f ∷ rs) e = let wrong : ◌≡◌ {A = ℕ} 0 1 = cc in absurd (omega arith)

pub is_line : (rs : List (Result Line ListFault)) (line : Line) → Ok (Some line) ≡ first_said rs → rs ≡ Ok line ∷ tail rs
is_line [] line e = let wrong : ◌≡◌ {A = ℕ} 0 1 = cc in absurd (omega arith)
is_line (Ok other ∷ rs) line e = let same : line ≡ other = cc in ap (λ (x : Line). Ok x ∷ rs) (sym same)
is_line (Err f ∷ rs) line e = let wrong : ◌≡◌ {A = ℕ} 0 1 = cc in absurd (omega arith)

pub is_fault : (rs : List (Result Line ListFault)) (f : ListFault) → Err f ≡ first_said rs → rs ≡ Err f ∷ tail rs
is_fault [] f e = let wrong : ◌≡◌ {A = ℕ} 0 1 = cc in absurd (omega arith)
is_fault (Ok line ∷ rs) f e = let wrong : ◌≡◌ {A = ℕ} 0 1 = cc in absurd (omega arith)
is_fault (Err g ∷ rs) f e = let same : f ≡ g = cc in ap (λ (x : ListFault). Err x ∷ rs) (sym same)

-- a line that is there is counted
pub counted : (n : ℕ) (ls : List (List ℕ)) (r : Result Line ListFault) (rs : List (Result Line ListFault)) → said_behind n ls ≡ r ∷ rs → one_more n ls ≡ n + 1
counted n [] r rs e = let wrong : ◌≡◌ {A = ℕ} 0 1 = cc in absurd (omega arith)
counted n (l ∷ ls) r rs e = refl

pub none_output : (n : ℕ) (S : Session) (rs : List (Result Line ListFault)) → rs ≡ [] → lines_output n S rs ≡ []
unfolding lines_output
none_output n S rs e = ap (lines_output n S) e

pub line_output : (n m : ℕ) (S S' : Session) (rs after : List (Result Line ListFault)) (line : Line) (o : Outcome) → rs ≡ Ok line ∷ tail rs → after ≡ tail rs → m ≡ n + 1 →
    o ≡ outcome_of S line → S' ≡ session_after S line → lines_output n S rs ≡ output_line m o ++ lines_output m S' after
unfolding lines_output
line_output n m S S' rs after line o e a em eo eS =
    ap (lines_output n S) e
    ∙ ap₂ (λ (k : ℕ) (x : Outcome). output_line k x ++ lines_output k (session_after S line) (tail rs)) (sym em) (sym eo)
    ∙ ap₂ (λ (T : Session) (xs : List (Result Line ListFault)). output_line m o ++ lines_output m T xs) (sym eS) (sym a)

pub fault_output : (n m : ℕ) (S : Session) (rs after : List (Result Line ListFault)) (f : ListFault) → rs ≡ Err f ∷ tail rs → after ≡ tail rs → m ≡ n + 1 →
    lines_output n S rs ≡ output_line m (Faulty f.fault) ++ lines_output m S after
unfolding lines_output
fault_output n m S rs after f e a em =
    ap (lines_output n S) e
    ∙ ap₂ (λ (k : ℕ) (xs : List (Result Line ListFault)). output_line k (Faulty f.fault) ++ lines_output k S xs) (sym em) (sym a)
