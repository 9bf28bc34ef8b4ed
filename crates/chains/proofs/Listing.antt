-- The listing holds every chain, each once, and nothing else. Assumes nothing.
use Rattle.std.proofs.Common.{◌≡◌, ℕ, zero, suc, ◌<◌, Bool, true, false, cond, eqb, ◌⊎◌, List, [], ◌∷◌, ◌++◌, map, length, sym, refl, ap, ◌∙◌, subst, inl, inr, ⊎_elim, not-suc-le-zero, arith}
use mathlib.Core.List.Memᴰ
use mathlib.Core.List.{Memᴰ, tail-eq_of_cons-eq}
use Rattle.std.proofs.lemmas.Bool.{eqb-true, eq-eqb, cases_eq}
use Rattle.lists.specs.Lists.{Once, below, keep, join_all}
use Rattle.chains.specs.Chains.{Members, Chain, here, down, accounts, Within, chains, count}

pub below_has : (n m : ℕ) → m < n → Memᴰ m (below n)
below_has zero m l = absurd (not-suc-le-zero l)
below_has (suc n) m l = split (cases_eq m n) (λ (l' : m < n). below_has n m l')
  where
    split : (m ≡ n) ⊎ (m ≡ n → ⊥) → (m < n → Memᴰ m (below n)) → Memᴰ m (below n ++ (n ∷ []))
    split (inl e) before = Memᴰ.append_right (below n) (Memᴰ.head e)
    split (inr d) before = Memᴰ.append_left (n ∷ []) (before (omega arith))

pub below_bound : (n m : ℕ) → Memᴰ m (below n) → m < n
below_bound zero m h = absurd (Memᴰ.not-nil h)
below_bound (suc n) m h = split (Memᴰ.append_cases (below n) h) (λ (h' : Memᴰ m (below n)). below_bound n m h')
  where
    split : Memᴰ m (below n) ⊎ Memᴰ m (n ∷ []) → (Memᴰ m (below n) → m < n) → m < suc n
    split (inl h') before = let l = before h' in omega arith
    split (inr h') before = let e = Memᴰ.eq_of_singleton h' in omega arith

pub once_append : {A : Type 0} (xs ys : List A) → Once xs → Once ys → ((x : A) → Memᴰ x xs → Memᴰ x ys → ⊥) → Once (xs ++ ys)
once_append [] ys ox oy apart = oy
once_append (x ∷ xs) ys ox oy apart = (
  λ h. ⊎_elim ox.0 (apart x (Memᴰ.head refl)) (Memᴰ.append_cases xs h),
  once_append xs ys ox.1 oy (λ z h k. apart z (Memᴰ.tail h) k),
)

pub once_map : {A B : Type 0} (f : A → B) → ((x y : A) → f x ≡ f y → x ≡ y) → (xs : List A) → Once xs → Once (map f xs)
once_map f inj [] o = tt
once_map f inj (x ∷ xs) o =
    (λ h. let from = Memᴰ.of_map f xs h in o.0 (Memᴰ.cast (sym (inj from.0 x from.2)) from.1), once_map f inj xs o.1)

pub once_below : (n : ℕ) → Once (below n)
once_below zero = tt
once_below (suc n) = once_append (below n) (n ∷ []) (once_below n) (Memᴰ.not-nil, tt) apart
  where
    apart : (x : ℕ) → Memᴰ x (below n) → Memᴰ x (n ∷ []) → ⊥
    apart x h k = let l = below_bound n x h in let e = Memᴰ.eq_of_singleton k in omega arith

module _ {A B : Type 0} (f : A → List B) (test : A → Bool) where
  joined_cases : (xs : List A) {b : B} → Memᴰ b (join_all f (keep test xs)) → (x : A) × Memᴰ x xs × (test x ≡ true) × Memᴰ b (f x)
  joined_cases [] h = absurd (Memᴰ.not-nil h)
  joined_cases (x ∷ xs) {b} h = step (test x) refl (λ (h' : Memᴰ b (join_all f (keep test xs))). joined_cases xs h') h
    where
      Found : List A → Type 0
      Found ys = (y : A) × Memᴰ y ys × (test y ≡ true) × Memᴰ b (f y)

      later : Found xs → Found (x ∷ xs)
      later r = (r.0, Memᴰ.tail r.1, r.2, r.3)

      step : (t : Bool) → test x ≡ t → (Memᴰ b (join_all f (keep test xs)) → Found xs) →
          Memᴰ b (join_all f (cond t (x ∷ keep test xs) (keep test xs))) → Found (x ∷ xs)
      step true e rest h' = ⊎_elim (λ m. (x, Memᴰ.head refl, e, m)) (λ m. later (rest m)) (Memᴰ.append_cases (f x) h')
      step false e rest h' = later (rest h')

  joined_has : (xs : List A) {x : A} {b : B} → Memᴰ x xs → test x ≡ true → Memᴰ b (f x) → Memᴰ b (join_all f (keep test xs))
  joined_has [] h e m = absurd (Memᴰ.not-nil h)
  joined_has (y ∷ ys) {x} {b} h e m = step (test y) refl (Memᴰ.cases_cons h) (λ (h' : Memᴰ x ys). joined_has ys h' e m)
    where
      step : (t : Bool) → test y ≡ t → (x ≡ y) ⊎ Memᴰ x ys → (Memᴰ x ys → Memᴰ b (join_all f (keep test ys))) →
          Memᴰ b (join_all f (cond t (y ∷ keep test ys) (keep test ys)))
      step true q (inl same) rest = Memᴰ.append_left (join_all f (keep test ys)) (subst (λ (z : A). Memᴰ b (f z)) same m)
      step true q (inr h') rest = Memᴰ.append_right (f y) (rest h')
      step false q (inl same) rest = absurd (apart (sym (ap test same ∙ q) ∙ e))
        where
          apart : false ≡ true → ⊥
          apart w = let z : ◌≡◌ {A = ℕ} 0 1 = cc in omega arith
      step false q (inr h') rest = rest h'

  once_joined : (xs : List A) → Once xs → ((x : A) → Once (f x)) → ((x y : A) (b : B) → Memᴰ b (f x) → Memᴰ b (f y) → x ≡ y) → Once (join_all f (keep test xs))
  once_joined [] o each apart = tt
  once_joined (x ∷ xs) o each apart = step (test x) (once_joined xs o.1 each apart)
    where
      elsewhere : (b : B) → Memᴰ b (f x) → Memᴰ b (join_all f (keep test xs)) → ⊥
      elsewhere b h k = let found = joined_cases xs k in o.0 (Memᴰ.cast (apart x found.0 b h found.3) found.1)

      step : (t : Bool) → Once (join_all f (keep test xs)) → Once (join_all f (cond t (x ∷ keep test xs) (keep test xs)))
      step true rest = once_append (f x) (join_all f (keep test xs)) (each x) rest elsewhere
      step false rest = rest

-- a chain of no membership, where the two ends are equal
at_once : (E : Members) (a s : ℕ) → a ≡ s → (c : Chain E a 0 s) × (accounts c ≡ a ∷ [])
at_once E a s e = subst (λ (x : ℕ). (c : Chain E a 0 x) × (accounts c ≡ a ∷ [])) e (here, refl)

pub listed_is_chain : (n : ℕ) (E : Members) (k a s : ℕ) (path : List ℕ) → Memᴰ path (chains n E a s k) → (c : Chain E a k s) × (accounts c ≡ path)
unfolding chains
listed_is_chain n E zero a s path h = step (eqb a s) refl h
  where
    step : (t : Bool) → eqb a s ≡ t → Memᴰ path (cond t ((a ∷ []) ∷ []) []) → (c : Chain E a 0 s) × (accounts c ≡ path)
    step true e h' = let c = at_once E a s (eqb-true a s e) in (c.0, c.1 ∙ sym (Memᴰ.eq_of_singleton h'))
    step false e h' = absurd (Memᴰ.not-nil h')
listed_is_chain n E (suc k) a s path h =
    let found = joined_cases (λ m. map (λ path. a ∷ path) (chains n E m s k)) (E a) (below n) h in
    let m = found.0 in
    let tail = Memᴰ.of_map (λ path. a ∷ path) (chains n E m s k) found.3 in
    let c = listed_is_chain n E k m s tail.0 tail.1 in
    (down found.2 c.0, ap (λ (path : List ℕ). a ∷ path) c.1 ∙ tail.2)

pub chain_is_listed : (n : ℕ) (E : Members) → Within n E → {a k s : ℕ} (c : Chain E a k s) → Memᴰ (accounts c) (chains n E a s k)
unfolding chains
chain_is_listed n E w (here {a}) = rw (eq-eqb a a refl) (Memᴰ.head refl)
chain_is_listed n E w {s = s} (down {a = a} {m = m} {k = k} e c) =
    joined_has (λ m. map (λ path. a ∷ path) (chains n E m s k)) (E a) (below n)
    (below_has n m (w a m e).1) e (Memᴰ.map (λ path. a ∷ path) (chain_is_listed n E w c))

first_of : List ℕ → ℕ
first_of [] = 0
first_of (x ∷ xs) = x

chain_begins : {E : Members} {a k s : ℕ} (c : Chain E a k s) → first_of (accounts c) ≡ a
unfolding first_of
chain_begins here = refl
chain_begins (down e c) = refl

pub listed_once : (n : ℕ) (E : Members) (k a s : ℕ) → Once (chains n E a s k)
unfolding chains
listed_once n E zero a s = step (eqb a s)
  where
    step : (t : Bool) → Once (cond t ((a ∷ []) ∷ []) [])
    step true = (Memᴰ.not-nil, tt)
    step false = tt
listed_once n E (suc k) a s =
    once_joined (λ m. map (λ path. a ∷ path) (chains n E m s k)) (E a) (below n) (once_below n)
    (λ m. once_map (λ path. a ∷ path) (λ x y e. tail-eq_of_cons-eq e) (chains n E m s k) (listed_once n E k m s))
    apart
  where
    begins : (m : ℕ) (path : List ℕ) → Memᴰ path (chains n E m s k) → first_of path ≡ m
    begins m path h = let c = listed_is_chain n E k m s path h in ap first_of (sym c.1) ∙ chain_begins c.0

    apart : (x y : ℕ) (b : List ℕ) → Memᴰ b (map (λ path. a ∷ path) (chains n E x s k)) → Memᴰ b (map (λ path. a ∷ path) (chains n E y s k)) → x ≡ y
    apart x y b h j =
        let u = Memᴰ.of_map (λ (path : List ℕ). a ∷ path) (chains n E x s k) h in
        let v = Memᴰ.of_map (λ (path : List ℕ). a ∷ path) (chains n E y s k) j in
        sym (begins x u.0 u.1) ∙ ap first_of (tail-eq_of_cons-eq (u.2 ∙ sym v.2)) ∙ begins y v.0 v.1

some_first : {A : Type 0} (xs : List A) → 0 < length xs → (x : A) × Memᴰ x xs
some_first [] l = absurd (not-suc-le-zero l)
some_first (x ∷ xs) l = (x, Memᴰ.head refl)

some_length : {A : Type 0} {x : A} (xs : List A) → Memᴰ x xs → 0 < length xs
some_length [] h = absurd (Memᴰ.not-nil h)
some_length (x ∷ xs) h = omega arith

pub counted_is_chain : (n : ℕ) (E : Members) (a s k : ℕ) → 0 < count n E a s k → Chain E a k s
unfolding count
counted_is_chain n E a s k l = let first = some_first (chains n E a s k) l in (listed_is_chain n E k a s first.0 first.1).0

pub chain_is_counted : (n : ℕ) (E : Members) → Within n E → {a s k : ℕ} → Chain E a k s → 0 < count n E a s k
unfolding count
chain_is_counted n E w {a} {s} {k} c = some_length (chains n E a s k) (chain_is_listed n E w c)

pub count_none : (n : ℕ) (E : Members) (a s k : ℕ) → (Chain E a k s → ⊥) → count n E a s k ≡ 0
count_none n E a s k none = split (count n E a s k) refl
  where
    split : (x : ℕ) → count n E a s k ≡ x → count n E a s k ≡ 0
    split zero e = e
    split (suc x) e = absurd (none (counted_is_chain n E a s k (omega arith)))
