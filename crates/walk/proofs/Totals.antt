-- Sums of weights over lists, from the laws of a weight. Assumes nothing.
use Rattle.std.proofs.Common.{◌≡◌, ℕ, zero, suc, ◌+◌, ◌<◌, ◌≤◌, Bool, true, false, cond, eqb, ◌⊎◌, List, [], ◌∷◌, ◌++◌, map, sym, refl, ap, ◌∙◌, inl, inr, add-one, arith}
use mathlib.Core.Path.{fun_ext}
use Rattle.std.proofs.lemmas.Bool.{eq-eqb, ne_eqb, cases_eq}
use Rattle.std.proofs.lemmas.List.{map-append}
use Rattle.lists.specs.Lists.{below, keep, join_all}
use Rattle.walk.specs.Weights.{Laws, total, times}

-- lists, whatever they hold

pub map_same : {A B : Type 0} {f g : A → B} → ((x : A) → f x ≡ g x) → (xs : List A) → map f xs ≡ map g xs
map_same h xs = ap (λ f. map f xs) (fun_ext h)

pub map_map : {A B C : Type 0} (f : B → C) (g : A → B) (xs : List A) → map f (map g xs) ≡ map (λ x. f (g x)) xs
map_map f g [] = refl
map_map f g (x ∷ xs) = ap (λ ys. f (g x) ∷ ys) (map_map f g xs)

pub map_join : {A B C : Type 0} (f : B → C) (g : A → List B) (xs : List A) → map f (join_all g xs) ≡ join_all (λ x. map f (g x)) xs
map_join f g [] = refl
map_join f g (x ∷ xs) = map-append f (g x) (join_all g xs) ∙ ap (λ ys. map f (g x) ++ ys) (map_join f g xs)

pub keep_append : {A : Type 0} (p : A → Bool) (xs ys : List A) → keep p (xs ++ ys) ≡ keep p xs ++ keep p ys
keep_append p [] ys = refl
keep_append {A} p (x ∷ xs) ys = at (p x) (keep_append p xs ys)
  where
    at : (b : Bool) → keep p (xs ++ ys) ≡ keep p xs ++ keep p ys → cond b (x ∷ keep p (xs ++ ys)) (keep p (xs ++ ys)) ≡ cond b (x ∷ keep p xs) (keep p xs) ++ keep p ys
    at true e = ap (λ zs. x ∷ zs) e
    at false e = e

-- two functions that agree below n have one image of what is kept below n
pub kept_same : {B : Type 0} (f g : ℕ → B) (p : ℕ → Bool) (n : ℕ) → ((x : ℕ) → x < n → f x ≡ g x) → map f (keep p (below n)) ≡ map g (keep p (below n))
kept_same f g p zero h = refl
kept_same f g p (suc n) h =
    let split : (e : ℕ → _) → map e (keep p (below n ++ (n ∷ []))) ≡ map e (keep p (below n)) ++ map e (keep p (n ∷ [])) =
    λ e. ap (map e) (keep_append p (below n) (n ∷ [])) ∙ map-append e (keep p (below n)) (keep p (n ∷ [])) in
    let last : map f (keep p (n ∷ [])) ≡ map g (keep p (n ∷ [])) = at (p n) in
    split f ∙ ap (λ ys. ys ++ map f (keep p (n ∷ []))) (kept_same f g p n (λ x l. h x (omega arith)))
    ∙ ap (λ ys. map g (keep p (below n)) ++ ys) last ∙ sym (split g)
  where
    at : (b : Bool) → map f (cond b (n ∷ []) []) ≡ map g (cond b (n ∷ []) [])
    at true = ap (λ y. y ∷ []) (h n (omega arith))
    at false = refl

pub times_inside : {X : Type 0} (f : X → X) (k : ℕ) (x : X) → times f (suc k) x ≡ times f k (f x)
times_inside f zero x = refl
times_inside f (suc k) x = ap f (times_inside f k x)

-- sums, from the laws

module _ {W : Type 0} {none : W} {add : W → W → W} {next : W → W} (laws : Laws none add next) where
  pub neutral_right : (x : W) → add x none ≡ x
  neutral_right x = laws.comm x none ∙ laws.neutral x

  pub total_append : (xs ys : List W) → total none add (xs ++ ys) ≡ add (total none add xs) (total none add ys)
  total_append [] ys = sym (laws.neutral (total none add ys))
  total_append (x ∷ xs) ys = ap (add x) (total_append xs ys) ∙ sym (laws.assoc x (total none add xs) (total none add ys))

  pub total_push : (xs : List W) (x : W) → total none add (xs ++ (x ∷ [])) ≡ add (total none add xs) x
  total_push xs x = total_append xs (x ∷ []) ∙ ap (add (total none add xs)) (neutral_right x)

  pub total_join : {A : Type 0} (f : A → List W) (xs : List A) → total none add (join_all f xs) ≡ total none add (map (λ x. total none add (f x)) xs)
  total_join f [] = refl
  total_join f (x ∷ xs) = total_append (f x) (join_all f xs) ∙ ap (add (total none add (f x))) (total_join f xs)

  pub next_total : (xs : List W) → next (total none add xs) ≡ total none add (map next xs)
  next_total [] = laws.keeps
  next_total (x ∷ xs) = laws.spreads x (total none add xs) ∙ ap (add (next x)) (next_total xs)

  pub times_total : (k : ℕ) (xs : List W) → times next k (total none add xs) ≡ total none add (map (times next k) xs)
  times_total zero xs = ap (total none add) (sym (ids xs))
    where
      ids : (ys : List W) → map (times next zero) ys ≡ ys
      ids [] = refl
      ids (y ∷ ys) = ap (λ zs. y ∷ zs) (ids ys)
  times_total (suc k) xs =
      ap next (times_total k xs) ∙ next_total (map (times next k) xs) ∙ ap (total none add) (map_map next (times next k) xs)

  pub total_none : {A : Type 0} (xs : List A) → total none add (map (λ x. none) xs) ≡ none
  total_none [] = refl
  total_none (x ∷ xs) = laws.neutral (total none add (map (λ y. none) xs)) ∙ total_none xs

  -- (a + b) + (c + d) is (a + c) + (b + d)
  pub exchange : (a b c d : W) → add (add a b) (add c d) ≡ add (add a c) (add b d)
  exchange a b c d =
      laws.assoc a b (add c d) ∙ ap (add a) (sym (laws.assoc b c d) ∙ ap (λ z. add z d) (laws.comm b c) ∙ laws.assoc c b d)
      ∙ sym (laws.assoc a c (add b d))

  pub total_add : {A : Type 0} (f g : A → W) (xs : List A) → total none add (map (λ x. add (f x) (g x)) xs) ≡ add (total none add (map f xs)) (total none add (map g xs))
  total_add f g [] = sym (laws.neutral none)
  total_add f g (x ∷ xs) =
      ap (add (add (f x) (g x))) (total_add f g xs) ∙ exchange (f x) (g x) (total none add (map f xs)) (total none add (map g xs))

  -- the order of two sums does not matter
  pub total_swap : {A B : Type 0} (f : A → B → W) (xs : List A) (ys : List B) → total none add (map (λ x. total none add (map (f x) ys)) xs) ≡ total none add (map (λ y. total none add (map (λ x. f x y) xs)) ys)
  total_swap f [] ys = sym (total_none ys)
  total_swap f (x ∷ xs) ys =
      ap (add (total none add (map (f x) ys))) (total_swap f xs ys)
      ∙ sym (total_add (f x) (λ y. total none add (map (λ z. f z y) xs)) ys)

  pub total_keep : {A : Type 0} (f : A → W) (p : A → Bool) (xs : List A) → total none add (map f (keep p xs)) ≡ total none add (map (λ x. cond (p x) (f x) none) xs)
  total_keep f p [] = refl
  total_keep {A} f p (x ∷ xs) = at (p x) ∙ ap (add (cond (p x) (f x) none)) (total_keep f p xs)
    where
      at : (b : Bool) → total none add (map f (cond b (x ∷ keep p xs) (keep p xs))) ≡ add (cond b (f x) none) (total none add (map f (keep p xs)))
      at true = refl
      at false = sym (laws.neutral (total none add (map f (keep p xs))))

  -- one element more, which is kept or not
  pub total_more : (f : ℕ → W) (p : ℕ → Bool) (i : ℕ) (b : Bool) → p i ≡ b → total none add (map f (keep p (below (i + 1)))) ≡ cond b (add (total none add (map f (keep p (below i)))) (f i)) (total none add (map f (keep p (below i))))
  total_more f p i b e =
      ap (λ j. total none add (map f (keep p (below j)))) (add-one i)
      ∙ ap (λ ys. total none add (map f ys)) (keep_append p (below i) (i ∷ []))
      ∙ ap (total none add) (map-append f (keep p (below i)) (keep p (i ∷ [])))
      ∙ ap (λ c. total none add (map f (keep p (below i)) ++ map f (cond c (i ∷ []) []))) e
      ∙ last b
    where
      last : (c : Bool) → total none add (map f (keep p (below i)) ++ map f (cond c (i ∷ []) [])) ≡ cond c (add (total none add (map f (keep p (below i)))) (f i)) (total none add (map f (keep p (below i))))
      last true = total_push (map f (keep p (below i))) (f i)
      last false = total_append (map f (keep p (below i))) [] ∙ neutral_right (total none add (map f (keep p (below i))))

  -- one element more, which adds nothing, kept or not
  pub total_idle : (f : ℕ → W) (p : ℕ → Bool) (i : ℕ) → f i ≡ none → total none add (map f (keep p (below (i + 1)))) ≡ total none add (map f (keep p (below i)))
  total_idle f p i e =
      total_more f p i (p i) refl ∙ ap (λ w. cond (p i) (add (total none add (map f (keep p (below i)))) w) (total none add (map f (keep p (below i))))) e
      ∙ either (p i) (total none add (map f (keep p (below i))))
    where
      either : (b : Bool) (w : W) → cond b (add w none) w ≡ w
      either true w = neutral_right w
      either false w = refl

  -- a test that does not depend on the element goes out of the sum
  pub total_cond : {A : Type 0} (b : Bool) (w : W) (xs : List A) → total none add (map (λ x. cond b w none) xs) ≡ cond b (total none add (map (λ x. w) xs)) none
  total_cond true w xs = refl
  total_cond false w xs = total_none xs

  -- a sum with one account's weight in it
  pub total_past : (f : ℕ → W) (s n : ℕ) → n ≤ s → total none add (map (λ a. cond (eqb a s) (f a) none) (below n)) ≡ none
  total_past f s zero h = refl
  total_past f s (suc n) h =
      ap (total none add) (map-append (λ a. cond (eqb a s) (f a) none) (below n) (n ∷ []))
      ∙ total_push (map (λ a. cond (eqb a s) (f a) none) (below n)) (cond (eqb n s) (f n) none)
      ∙ ap (λ z. add z (cond (eqb n s) (f n) none)) (total_past f s n (omega arith))
      ∙ laws.neutral (cond (eqb n s) (f n) none)
      ∙ ap (λ b. cond b (f n) none) (ne_eqb n s (λ e. omega arith))

  pub total_one : (f : ℕ → W) (s n : ℕ) → s < n → total none add (map (λ a. cond (eqb a s) (f a) none) (below n)) ≡ f s
  total_one f s zero h = absurd (omega arith)
  total_one f s (suc n) h =
      ap (total none add) (map-append (λ a. cond (eqb a s) (f a) none) (below n) (n ∷ []))
      ∙ total_push (map (λ a. cond (eqb a s) (f a) none) (below n)) (cond (eqb n s) (f n) none)
      ∙ last (cases_eq n s) (λ l. total_one f s n l)
    where
      last : (n ≡ s) ⊎ (n ≡ s → ⊥) → (s < n → total none add (map (λ a. cond (eqb a s) (f a) none) (below n)) ≡ f s) → add (total none add (map (λ a. cond (eqb a s) (f a) none) (below n))) (cond (eqb n s) (f n) none) ≡ f s
      last (inl e) before =
          ap (λ z. add z (cond (eqb n s) (f n) none)) (total_past f s n (omega arith))
          ∙ laws.neutral (cond (eqb n s) (f n) none) ∙ ap (λ b. cond b (f n) none) (eq-eqb n s e) ∙ ap f e
      last (inr ne) before =
          ap (λ b. add (total none add (map (λ a. cond (eqb a s) (f a) none) (below n))) (cond b (f n) none)) (ne_eqb n s ne)
          ∙ neutral_right (total none add (map (λ a. cond (eqb a s) (f a) none) (below n)))
          ∙ before (omega arith)
