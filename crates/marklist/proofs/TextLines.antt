-- What the lines of a text write. Assumes nothing.
use Rattle.std.proofs.Common.{◌≡◌, ℕ, ◌+◌, List, [], ◌∷◌, ◌++◌, Ok, Err, Result, sym, refl, ap, ◌∙◌, ap₂, append_assoc}
use Rattle.texts.specs.Lines.{lines_of}
use Rattle.marklist.specs.Texts.{ListFault, with_mark, marks_in}
use Rattle.marklist.specs.Lines.{arrival_in}
use Rattle.strategies.specs.Rows.{CappedCountsOf}
use Rattle.strategies.specs.declared.marks.Arrival.{Arrival}
use Rattle.strategies.specs.declared.rows.Rows.{Rows}
use Rattle.marklist.specs.declared.faults.MarkFault.{MarkFault}

-- what was read in front of what is still to read
abbrev pub behind : List Arrival → Result (List Arrival) ListFault → Result (List Arrival) ListFault
behind seen (Ok more) = Ok (seen ++ more)
behind seen (Err f) = Err f

-- the rows count what was read of the text, and these lines are left
abbrev pub Reading : List ℕ → List (List ℕ) → ℕ → Rows → Type 0
Reading text left line rows = (seen : List Arrival) × CappedCountsOf rows seen × (marks_in 0 (lines_of text) ≡ behind seen (marks_in line left))

pub begins : (text : List ℕ) (left : List (List ℕ)) (line : ℕ) (rows : Rows) → left ≡ lines_of text → line ≡ 0 → CappedCountsOf rows [] → Reading text left line rows
begins text left line rows whole zero of = ([], of, by (marks_in 0 (lines_of text)) ∙ ap₂ (λ (n : ℕ) (ls : List (List ℕ)). behind [] (marks_in n ls)) (sym zero) (sym whole))
  where
    by : (r : Result (List Arrival) ListFault) → r ≡ behind [] r
    by (Ok l) = refl
    by (Err f) = refl

one_behind : (seen : List Arrival) (n : ℕ) (a : Arrival) (r : Result (List Arrival) ListFault) → behind seen (with_mark n (Ok a) r) ≡ behind (seen ++ (a ∷ [])) r
one_behind seen n a (Ok l) = ap Ok (sym (append_assoc seen (a ∷ []) l))
one_behind seen n a (Err f) = refl

pub goes_on : (text first : List ℕ) (left rest : List (List ℕ)) (line next : ℕ) (rows more : Rows) (a : Arrival) → Reading text left line rows → left ≡ first ∷ rest → next ≡ line + 1 → Ok a ≡ arrival_in first
    → ((l : List Arrival) → CappedCountsOf rows l → CappedCountsOf more (l ++ (a ∷ []))) → Reading text rest next more
goes_on text first left rest line next rows more a state lines one is add = (
  state.0 ++ (a ∷ []),
  add state.0 state.1,
  state.2
      ∙ ap (λ ls. behind state.0 (marks_in line ls)) lines
      ∙ ap₂ (λ (n : ℕ) (r : Result Arrival MarkFault). behind state.0 (with_mark n r (marks_in n rest))) (sym one) (sym is)
      ∙ one_behind state.0 next a (marks_in next rest),
)
