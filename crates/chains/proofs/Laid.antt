-- The table of a set of memberships, place by place. Assumes nothing.
use Rattle.std.proofs.Common.{◌≡◌, ℕ, zero, suc, ◌+◌, ◌-◌, ◌*◌, ◌/◌, ◌%◌, ◌<◌, ◌≤◌, ◌⊎◌, List, [], ◌∷◌, ◌++◌, length, get_or, take, drop, sym, refl, ap, ◌∙◌, inl, inr, append_assoc, append-nil, not-suc-le-zero, mod-lt, mul_assoc, div-lt_iff_lt-mul, div-add-mod', arith}
use Rattle.std.proofs.lemmas.List.{get_or_append_left, get_or-append_right, get_or_default, get_or-drop, get_or-map, get_or-take, length-append, length-drop, length-map, length-take-le, same_lists}
use Rattle.std.proofs.lemmas.Nat.{mul-add-lt}
use Rattle.std.proofs.lemmas.Bool.{cases_eq}
use Rattle.lists.specs.Lists.{below, join_all}
use Rattle.chains.specs.Chains.{Members, count}
use Rattle.chains.specs.Table.{entry, place, row_of, size, table_of}
use Rattle.chains.proofs.Places.{place_below}

length_below : (n : ℕ) → length (below n) ≡ n
length_below zero = refl
length_below (suc n) = let before = length_below n in simp length-append (omega arith)

get_or_below : (n k : ℕ) → k < n → get_or (below n) k 0 ≡ k
get_or_below zero k l = absurd (not-suc-le-zero l)
get_or_below (suc n) k l = split (cases_eq k n) (λ (l' : k < n). get_or_below n k l')
  where
    split : (k ≡ n) ⊎ (k ≡ n → ⊥) → (k < n → get_or (below n) k 0 ≡ k) → get_or (below n ++ (n ∷ [])) k 0 ≡ k
    split (inl e) before =
        let long = length_below n in
        let none : k - n ≡ 0 = omega arith in
        get_or-append_right (below n) (n ∷ []) n k 0 long (omega arith) ∙ ap (λ (x : ℕ). get_or (n ∷ []) x 0) none ∙ sym e
    split (inr d) before =
        let long = length_below n in
        get_or_append_left (below n) (n ∷ []) 0 k (omega arith) ∙ before (omega arith)

join_all_join : {A B : Type 0} (f : A → List B) (xs ys : List A) → join_all f (xs ++ ys) ≡ join_all f xs ++ join_all f ys
join_all_join f [] ys = refl
join_all_join f (x ∷ xs) ys = ap (λ zs. f x ++ zs) (join_all_join f xs ys) ∙ sym (append_assoc (f x) (join_all f xs) (join_all f ys))

-- parts of equal length, one after the other
module _ (f : ℕ → List ℕ) (b : ℕ) where
  one_more : (n : ℕ) → join_all f (below (suc n)) ≡ join_all f (below n) ++ f n
  one_more n = join_all_join f (below n) (n ∷ []) ∙ ap (λ (zs : List ℕ). join_all f (below n) ++ zs) (append-nil (f n))

  pub length_parts : (n : ℕ) → ((i : ℕ) → i < n → length (f i) ≡ b) → length (join_all f (below n)) ≡ n * b
  length_parts zero h = sym (omega arith)
  length_parts (suc n) h =
      let before = length_parts n (λ i l. h i (omega arith)) in
      let last = h n (omega arith) in
      let more = ap length (one_more n) ∙ length-append (join_all f (below n)) (f n) in
      omega arith

  pub get_or_parts : (n i j : ℕ) → ((x : ℕ) → x < n → length (f x) ≡ b) → i < n → j < b → get_or (join_all f (below n)) (i * b + j) 0 ≡ get_or (f i) j 0
  get_or_parts zero i j h l lj = absurd (not-suc-le-zero l)
  get_or_parts (suc n) i j h l lj =
      ap (λ (zs : List ℕ). get_or zs (i * b + j) 0) (one_more n)
      ∙ split (cases_eq i n) (λ (l' : i < n). get_or_parts n i j (λ x k. h x (omega arith)) l' lj)
    where
      long : length (join_all f (below n)) ≡ n * b
      long = length_parts n (λ x k. h x (omega arith))

      split : (i ≡ n) ⊎ (i ≡ n → ⊥) → (i < n → get_or (join_all f (below n)) (i * b + j) 0 ≡ get_or (f i) j 0) →
          get_or (join_all f (below n) ++ f n) (i * b + j) 0 ≡ get_or (f i) j 0
      split (inl e) before =
          let same : i * b ≡ n * b = ap (λ (x : ℕ). x * b) e in
          let left : (i * b + j) - n * b ≡ j = omega arith in
          get_or-append_right (join_all f (below n)) (f n) (n * b) (i * b + j) 0 long (omega arith)
          ∙ ap (λ (x : ℕ). get_or (f n) x 0) left
          ∙ ap (λ (x : ℕ). get_or (f x) j 0) (sym e)
      split (inr d) before =
          let lt : i < n = omega arith in
          let inside : i * b + j < n * b = omega (arith, mul-add-lt i b j n lt lj) in
          let whole : length (join_all f (below n)) ≡ n * b = long in
          get_or_append_left (join_all f (below n)) (f n) 0 (i * b + j) (omega arith) ∙ before lt

module _ (n : ℕ) (E : Members) where
  line_of : ℕ → List ℕ
  line_of a = join_all (row_of n E a) (below n)

  pub row_long : (a s : ℕ) → length (row_of n E a s) ≡ 8
  row_long a s = length-map (below 8) (count n E a s) ∙ length_below 8

  pub row_at : (a s k : ℕ) → k < 8 → get_or (row_of n E a s) k 0 ≡ count n E a s k
  row_at a s k hk =
      get_or-map (count n E a s) (below 8) k 0 0 (let long = length_below 8 in omega arith)
      ∙ ap (count n E a s) (get_or_below 8 k hk)

  line_long : (a : ℕ) → length (line_of a) ≡ n * 8
  unfolding line_of
  line_long a = length_parts (row_of n E a) 8 n (λ s l. row_long a s)

  pub table_long : length (table_of n E) ≡ size n
  unfolding table_of line_of
  table_long = let long = length_parts line_of (n * 8) n (λ a l. line_long a) in let regroup = mul_assoc n n 8 in omega arith

  pub table_at : (a s k : ℕ) → a < n → s < n → k < 8 → entry (table_of n E) n a s k ≡ count n E a s k
  unfolding table_of line_of
  table_at a s k ha hs hk =
      let regroup = mul_assoc a n 8 in
      let same : place n a s k ≡ a * (n * 8) + (s * 8 + k) = omega arith in
      let inside : s * 8 + k < n * 8 = omega (arith, mul-add-lt s 8 k n hs hk) in
      ap (λ (q : ℕ). get_or (table_of n E) q 0) same
      ∙ get_or_parts line_of (n * 8) n a (s * 8 + k) (λ x l. line_long x) ha inside
      ∙ get_or_parts (row_of n E a) 8 n s k (λ x l. row_long a x) hs hk
      ∙ row_at a s k hk

-- each place of a table is that of one count
pub decoded : (n q : ℕ) → q < size n → (a : ℕ) × (s : ℕ) × (k : ℕ) × (a < n) × (s < n) × (k < 8) × (q ≡ place n a s k)
decoded n q l =
    let r = q / 8 in
    let rows : r * 8 + q % 8 ≡ q = div-add-mod' q 8 in
    let short : q % 8 < 8 = mod-lt q (omega arith) in
    let inside : r < n * n = omega arith in
    let some : 0 < n = positive n r inside in
    let lines : r / n * n + r % n ≡ r = div-add-mod' r n in
    (r / n, r % n, q % 8, (div-lt_iff_lt-mul some).1 inside, mod-lt r some, short, omega arith)
  where
    positive : (m x : ℕ) → x < m * m → 0 < m
    positive zero x h = absurd (omega arith)
    positive (suc m) x h = omega arith

-- a table that has every count, by equality of lists, and back
pub laid : (n : ℕ) (E : Members) (t : List ℕ) → size n ≤ length t →
    ((a s k : ℕ) → a < n → s < n → k < 8 → entry t n a s k ≡ count n E a s k) → take (size n) t ≡ table_of n E
laid n E t fits h =
    let short = length-take-le (size n) t fits in
    let long = table_long n E in
    same_lists (take (size n) t) (table_of n E) (short ∙ sym long)
    (λ q d l.
    let inside : q < size n = omega arith in
    let at = decoded n q inside in
    get_or-take (size n) t q d inside
    ∙ get_or_default t q d 0 (omega arith)
    ∙ ap (λ (x : ℕ). get_or t x 0) at.6
    ∙ h at.0 at.1 at.2 at.3 at.4 at.5
    ∙ sym (table_at n E at.0 at.1 at.2 at.3 at.4 at.5)
    ∙ ap (λ (x : ℕ). get_or (table_of n E) x 0) (sym at.6)
    ∙ get_or_default (table_of n E) q 0 d (omega arith))

pub laid_at : (n : ℕ) (E : Members) (t : List ℕ) → take (size n) t ≡ table_of n E →
    (a s k : ℕ) → a < n → s < n → k < 8 → entry t n a s k ≡ count n E a s k
laid_at n E t e a s k ha hs hk =
    sym (get_or-take (size n) t (place n a s k) 0 (place_below n a s k ha hs hk))
    ∙ ap (λ (xs : List ℕ). get_or xs (place n a s k) 0) e
    ∙ table_at n E a s k ha hs hk

-- what stands behind a place, by equality of lists
pub behind_same : (q : ℕ) (t u : List ℕ) → length u ≡ length t → ((i : ℕ) → q ≤ i → get_or u i 0 ≡ get_or t i 0) → drop q u ≡ drop q t
behind_same q t u long h =
    let lu = length-drop q u in let lt = length-drop q t in
    same_lists (drop q u) (drop q t) (omega arith)
    (λ i d l.
    get_or-drop q u i d ∙ get_or_default u (q + i) d 0 (omega arith) ∙ h (q + i) (omega arith) ∙ get_or_default t (q + i) 0 d (omega arith) ∙ sym (get_or-drop q t i d))
