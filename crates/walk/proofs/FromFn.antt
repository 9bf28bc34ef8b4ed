-- An array that is made of a function of the place, whose calls leave the function as it is. Assumes nothing.
use Rattle.std.proofs.Common.{◌≡◌, ℕ, zero, suc, ◌+◌, ◌<◌, ◌≤◌, List, get_or, sym, ap, ◌∙◌, subst, ⊎_elim, arith}
use Rattle.std.proofs.lemmas.Bool.{cases_lt}
use Rattle.std.specs.Array.{IsFromFnResultFrom}
use denote.Param.Members.{Mut, Called}

module _ {F : Type 0} (g : Mut F (ℕ × Unit {0}) ℕ) (f : F) (v : ℕ → ℕ) (gives : (i y : ℕ) (q : F) → Called g f (i, tt) y q → (q ≡ f) × (y ≡ v i)) where
  pub from_each : (ys : List ℕ) (n i : ℕ) → IsFromFnResultFrom g f ys i n → (d : ℕ) → i ≤ d → d < i + n → get_or ys d 0 ≡ v d
  from_each ys zero i h d low high = absurd (omega arith)
  from_each ys (suc n) i h d low high =
      let is = gives i h.1 h.0 h.3 in
      ⊎_elim (λ l. from_each ys n (i + 1) (subst (λ q. IsFromFnResultFrom g q ys (i + 1) n) is.0 h.4) d (omega arith) (omega arith))
      (λ u. let here : d ≡ i = omega arith in ap (λ k. get_or ys k 0) here ∙ h.2.1 0 ∙ is.1 ∙ ap v (sym here)) (cases_lt i d)
