-- The listing of item chains holds every chain, each once, and nothing else. Assumes nothing.
use Rattle.std.proofs.Common.{◌≡◌, ℕ, zero, suc, Bool, true, false, cond, eqb, List, [], ◌∷◌, map, sym, refl, ap, ◌∙◌, subst}
use mathlib.Core.List.Memᴰ
use mathlib.Core.List.{tail-eq_of_cons-eq}
use Rattle.std.proofs.lemmas.Bool.{eqb-true, eq-eqb}
use Rattle.lists.specs.Lists.{Listed, Once}
use Rattle.plans.specs.Items.{Items, Lawful, item_chains}
use Rattle.plans.specs.Runs.{ItemChain, itself, inside, items_of}
use Rattle.plans.proofs.Joined.{joined_cases, joined_has, once_joined, once_map, some_listed, listed_some}

-- a chain of no container, where the two ends are equal
at_once : (M : Items) (b o : ℕ) → b ≡ o → (c : ItemChain M b 0 o) × (items_of c ≡ o ∷ [])
at_once M b o e = subst (λ (x : ℕ). (c : ItemChain M x 0 o) × (items_of c ≡ o ∷ [])) (sym e) (itself, refl)

pub listed_is_chain : (M : Items) (k b o : ℕ) (path : List ℕ) → Listed path (item_chains M b o k) → (c : ItemChain M b k o) × (items_of c ≡ path)
unfolding item_chains
listed_is_chain M zero b o path h = step (eqb b o) refl h
  where
    step : (t : Bool) → eqb b o ≡ t → Listed path (cond t ((o ∷ []) ∷ []) []) → (c : ItemChain M b 0 o) × (items_of c ≡ path)
    step true e h' = let c = at_once M b o (eqb-true b o e) in (c.0, c.1 ∙ sym (Memᴰ.eq_of_singleton h'))
    step false e h' = absurd (Memᴰ.not-nil h')
listed_is_chain M (suc k) b o path h =
    let found = joined_cases (λ c. map (λ path. o ∷ path) (item_chains M b c k)) (M.containers o) h in
    let tail = Memᴰ.of_map (λ path. o ∷ path) (item_chains M b found.0 k) found.2 in
    let c = listed_is_chain M k b found.0 tail.0 tail.1 in
    (inside (listed_some found.0 (M.containers o) found.1) c.0, ap (λ (path : List ℕ). o ∷ path) c.1 ∙ tail.2)

pub chain_is_listed : (M : Items) {b k o : ℕ} (c : ItemChain M b k o) → Listed (items_of c) (item_chains M b o k)
unfolding item_chains
chain_is_listed M (itself {item}) = rw (eq-eqb item item refl) (Memᴰ.head refl)
chain_is_listed M {b = b} (inside {c = c} {k = k} {o = o} e chain) =
    joined_has (λ c. map (λ path. o ∷ path) (item_chains M b c k)) (M.containers o)
    (some_listed c (M.containers o) e) (Memᴰ.map (λ path. o ∷ path) (chain_is_listed M chain))

first_of : List ℕ → ℕ
first_of [] = 0
first_of (x ∷ xs) = x

chain_begins : {M : Items} {b k o : ℕ} (c : ItemChain M b k o) → first_of (items_of c) ≡ o
unfolding first_of
chain_begins itself = refl
chain_begins (inside e c) = refl

pub listed_once : (M : Items) → Lawful M → (k b o : ℕ) → Once (item_chains M b o k)
unfolding item_chains
listed_once M lawful zero b o = step (eqb b o)
  where
    step : (t : Bool) → Once (cond t ((o ∷ []) ∷ []) [])
    step true = (Memᴰ.not-nil, tt)
    step false = tt
listed_once M lawful (suc k) b o =
    once_joined (λ c. map (λ path. o ∷ path) (item_chains M b c k)) (M.containers o) (lawful.different o)
    (λ c. once_map (λ path. o ∷ path) (λ x y e. tail-eq_of_cons-eq e) (item_chains M b c k) (listed_once M lawful k b c))
    apart
  where
    begins : (c : ℕ) (path : List ℕ) → Listed path (item_chains M b c k) → first_of path ≡ c
    begins c path h = let chain = listed_is_chain M k b c path h in ap first_of (sym chain.1) ∙ chain_begins chain.0

    apart : (x y : ℕ) (p : List ℕ) → Listed p (map (λ path. o ∷ path) (item_chains M b x k)) → Listed p (map (λ path. o ∷ path) (item_chains M b y k)) → x ≡ y
    apart x y p h j =
        let u = Memᴰ.of_map (λ (path : List ℕ). o ∷ path) (item_chains M b x k) h in
        let v = Memᴰ.of_map (λ (path : List ℕ). o ∷ path) (item_chains M b y k) j in
        sym (begins x u.0 u.1) ∙ ap first_of (tail-eq_of_cons-eq (u.2 ∙ sym v.2)) ∙ begins y v.0 v.1
