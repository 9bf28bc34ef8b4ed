-- What the calls of a writer behind a vector's bytes add up to. Assumes nothing.
use Rattle.std.proofs.Common.{◌≡◌, ℕ, List, [], ◌∷◌, ◌++◌, Result, Some, OnOk, Ok, Err, sym, ap, ◌∙◌, append_assoc, append-nil}
use Rattle.std.specs.List.{FoldsTo, concat}
use Rattle.std.specs.Fmt.{WritesText}
use Rattle.output.specs.declared.pushing.Behind.{Behind}

-- what one call writes stands behind the bytes before, in the same vector
abbrev pub Grows : Behind → List ℕ → Behind → Type 0
Grows s bs t = (t.out.ghost_name ≡ s.out.ghost_name) × (t.out.now.items ≡ s.out.now.items ++ bs)

grown : (s : Behind) (parts : List (List ℕ)) (t : Behind) → FoldsTo Grows s parts t → Grows s (concat parts) t
grown s [] t calls = (ap (λ (b : Behind). b.out.ghost_name) (sym calls), ap (λ (b : Behind). b.out.now.items) (sym calls) ∙ sym (append-nil s.out.now.items))
grown s (part ∷ parts) t calls =
    let rest = grown calls.0 parts t calls.2 in (
      rest.0 ∙ calls.1.0,
      rest.1 ∙ ap (λ (bs : List ℕ). bs ++ concat parts) calls.1.1 ∙ append_assoc s.out.now.items part (concat parts),
    )

pub written : {E : Type 0} (r : Result (Unit {0}) E) (s t : Behind) (bs : List ℕ) → OnOk r (WritesText Grows s (Some bs) t) → OnOk r (Grows s bs t)
written (Ok u) s t bs calls = let all = grown s calls.parts t calls.calls in (all.0, all.1 ∙ ap (λ (l : List ℕ). s.out.now.items ++ l) calls.whole)
written (Err e) s t bs calls = tt
