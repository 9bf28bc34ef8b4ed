-- Chains walked from one number more, and from the last. Assumes nothing.
use Rattle.std.proofs.Common.{◌≡◌, ℕ, suc, ◌+◌, ◌-◌, ◌<◌, ◌≤◌, List, [], ◌∷◌, ◌++◌, length, get_or, take, Result, Ok, Vec, sym, refl, ap, ◌∙◌, subst, append_assoc, append-nil, arith}
use Rattle.std.proofs.lemmas.List.{take_more, take_all}
use Rattle.std.specs.Vec.{vec_items}
use Rattle.lister.specs.declared.every_chain.Chain.{Chain}
use Rattle.lister.specs.Walks.{chain, Each, Walked}

-- behind what stands nothing more may stand
pub nothing_more : (found : List Chain) → (more : List Chain) × (found ≡ found ++ more)
nothing_more found = ([], sym (append-nil found))

-- for no number nothing is listed
pub each_none : (Listed : ℕ → List Chain → Type 0) → Each Listed [] []
unfolding Each
each_none Listed = refl

-- what is listed for one number more stands behind
each_more : (Listed : ℕ → List Chain → Type 0) (others : List ℕ) (at : ℕ) (found more : List Chain) →
    Each Listed others found → Listed at more → Each Listed (others ++ at ∷ []) (found ++ more)
unfolding Each
each_more Listed [] at found more none one = (more, [], ap (λ (xs : List Chain). xs ++ more) none ∙ sym (append-nil more), one, refl)
each_more Listed (other ∷ others) at found more (first, rest, parts, here, there) one =
    (first, rest ++ more, ap (λ (xs : List Chain). xs ++ more) parts ∙ append_assoc first rest more, here, each_more Listed others at rest more there one)

module _ (Listed : ℕ → List Chain → Type 0) (next : List ℕ) (i : ℕ) (found : List Chain) (so_far : Each Listed (take i next) found) where
  -- the same, of the first numbers of a list
  pub each_taken : i < length next → (more : List Chain) → Listed (get_or next i 0) more → Each Listed (take (i + 1) next) (found ++ more)
  each_taken within more one =
      subst (λ xs. Each Listed xs (found ++ more)) (sym (take_more next i 0 within)) (each_more Listed (take i next) (get_or next i 0) found more so_far one)

  -- and of all of them
  pub each_all : length next ≤ i → (all : List ℕ) → next ≡ all → Each Listed all found
  each_all end all same = subst (λ xs. Each Listed xs found) (take_all i next end ∙ same) so_far

module _ {Z E : Type 0} (onward : ℕ → Result (Vec ℕ Z) E → Type 0) (at long : ℕ) where
  -- a chain of length 8 is not continued
  pub walked_last : 8 ≤ long → Walked onward (8 - long) at long (chain at long ∷ [])
  unfolding Walked
  walked_last most = let none : 0 ≡ 8 - long = omega arith in subst (λ left. Walked onward left at long (chain at long ∷ [])) none refl

  -- a shorter one is
  pub walked_on : (next : Vec ℕ Z) (rest : List Chain) → long < 8 → onward at (Ok next) → Each (λ further. Walked onward (8 - (long + 1)) further (long + 1)) (vec_items next) rest →
      Walked onward (8 - long) at long (chain at long ∷ rest)
  unfolding Walked
  walked_on next rest short told listed =
      let one : suc (8 - (long + 1)) ≡ 8 - long = omega arith in
      subst (λ left. Walked onward left at long (chain at long ∷ rest)) one (next, rest, told, refl, listed)
