-- The list of its items determines an item chain. Assumes nothing.
use Rattle.std.proofs.Common.{◌≡◌, ℕ, zero, suc, true, List, [], ◌∷◌, sym, refl, ap, ◌∙◌, subst}
use mathlib.Core.Path.{PathP, subst_refl}
use mathlib.Core.HLevel.{is_prop→PathP}
use mathlib.Core.Bool.{Bool-set}
use mathlib.Core.List.{head-eq_of_cons-eq, tail-eq_of_cons-eq}
use native.Mathlib.Nat.{ℕ_set}
use Rattle.plans.specs.Items.{Items}
use Rattle.plans.specs.Runs.{contains, ItemChain, itself, inside, items_of}

-- a chain as plain data: the two ends are equal, or a container and the rest
abbrev Steps : Items → ℕ → ℕ → ℕ → Type 0
Steps M b zero o = o ≡ b
Steps M b (suc k) o = (c : ℕ) × (contains M c o ≡ true) × Steps M b k c

steps_of : {M : Items} {b k o : ℕ} → ItemChain M b k o → Steps M b k o
steps_of itself = refl
steps_of (inside {c = c} e chain) = (c, e, steps_of chain)

chain_of : (M : Items) (b k o : ℕ) → Steps M b k o → ItemChain M b k o
chain_of M b zero o e = subst (λ (x : ℕ). ItemChain M x 0 o) e itself
chain_of M b (suc k) o r = inside r.1 (chain_of M b k r.0 r.2)

there_and_back : {M : Items} {b k o : ℕ} (c : ItemChain M b k o) → chain_of M b k o (steps_of c) ≡ c
unfolding steps_of chain_of
there_and_back {M} (itself {item}) = subst_refl (λ (x : ℕ). ItemChain M x 0 item) itself
there_and_back (inside e c) = ap (λ x. inside e x) (there_and_back c)

step_items : (M : Items) (b k o : ℕ) → Steps M b k o → List ℕ
step_items M b zero o e = o ∷ []
step_items M b (suc k) o r = o ∷ step_items M b k r.0 r.2

same_items : {M : Items} {b k o : ℕ} (c : ItemChain M b k o) → step_items M b k o (steps_of c) ≡ items_of c
unfolding steps_of step_items
same_items itself = refl
same_items (inside {o = o} e c) = ap (λ (path : List ℕ). o ∷ path) (same_items c)

one_way : (M : Items) (b k : ℕ) (x y : (o : ℕ) × Steps M b k o) → step_items M b k x.0 x.1 ≡ step_items M b k y.0 y.1 → x ≡ y
unfolding step_items
one_way M b zero x y e =
    let low : x.0 ≡ y.0 = head-eq_of_cons-eq e in
    λ i. (low i, is_prop→PathP (λ j. low j ≡ b) (λ j. ℕ_set (low j) b) x.1 y.1 i)
one_way M b (suc k) x y e =
    let low : x.0 ≡ y.0 = head-eq_of_cons-eq e in
    let rest = one_way M b k (x.1.0, x.1.2) (y.1.0, y.1.2) (tail-eq_of_cons-eq e) in
    λ i. (low i, ((rest i).0, is_prop→PathP (λ j. contains M (rest j).0 (low j) ≡ true) (λ j. Bool-set (contains M (rest j).0 (low j)) true) x.1.1 y.1.1 i, (rest i).1))

pub chain_from_items : {M : Items} {b k o : ℕ} (c d : ItemChain M b k o) → items_of c ≡ items_of d → c ≡ d
chain_from_items {M} {b} {k} {o} c d e =
    let both : (o, steps_of c) ≡ (o, steps_of d) = one_way M b k (o, steps_of c) (o, steps_of d) (same_items c ∙ e ∙ sym (same_items d)) in
    let steps : steps_of c ≡ steps_of d =
    subst (λ (p : o ≡ o). PathP (λ i. Steps M b k (p i)) (steps_of c) (steps_of d)) (ℕ_set o o (λ i. (both i).0) refl) (λ i. (both i).1) in
    sym (there_and_back c) ∙ ap (chain_of M b k o) steps ∙ there_and_back d
