-- What stands behind the letter, cut into its columns and put together again. Assumes nothing.
use Rattle.std.proofs.Common.{◌≡◌, ℕ, ◌+◌, ◌≤◌, List, [], ◌∷◌, ◌++◌, length, get_or, take, drop, sym, refl, ap, ◌∙◌, arith}
use Rattle.std.proofs.lemmas.List.{take-append-drop, drop-drop, take_all, length-drop, length-take-le, take_at, drop_at}
use Rattle.lines.specs.Lines.{at_columns}

-- j bytes from place i on, and what stands behind them
cut : (i j : ℕ) (X : List ℕ) → drop i X ≡ take j (drop i X) ++ drop (i + j) X
cut i j X = sym (take-append-drop j (drop i X)) ∙ ap (λ l. take j (drop i X) ++ l) (drop-drop j i X)

-- the last j bytes
last : (i j : ℕ) (X : List ℕ) → length X ≡ i + j → drop i X ≡ take j (drop i X)
last i j X long = let all : length (drop i X) ≤ j = simp length-drop (omega arith) in sym (take_all j (drop i X) all)

-- a piece is as wide as its columns
pub wide : (i j : ℕ) (X : List ℕ) → i + j ≤ length X → length (take j (drop i X)) ≡ j
wide i j X long = let more : j ≤ length (drop i X) = simp length-drop (omega arith) in length-take-le j (drop i X) more

pub pieces_pair : (X : List ℕ) → length X ≡ 17 → X ≡ at_columns 2 6 X ++ (at_columns 7 11 X ++ at_columns 12 18 X)
pieces_pair X long =
    cut 0 5 X ∙ ap (λ l. take 5 X ++ l) (cut 5 5 X ∙ ap (λ l. take 5 (drop 5 X) ++ l) (last 10 7 X long))

pub pieces_triple : (X : List ℕ) → length X ≡ 17 → X ≡ at_columns 2 6 X ++ (at_columns 7 11 X ++ (at_columns 12 16 X ++ at_columns 17 18 X))
pieces_triple X long =
    cut 0 5 X
    ∙ ap (λ l. take 5 X ++ l) (cut 5 5 X
    ∙ ap (λ l. take 5 (drop 5 X) ++ l) (cut 10 5 X ∙ ap (λ l. take 5 (drop 10 X) ++ l) (last 15 2 X long)))

pub pieces_two : (X : List ℕ) → length X ≡ 17 → at_columns 17 18 X ≡ at_columns 17 17 X ++ at_columns 18 18 X
pieces_two X long = sym (last 15 2 X long) ∙ cut 15 1 X ∙ ap (λ l. take 1 (drop 15 X) ++ l) (last 16 1 X long)

pub pieces_name : (X : List ℕ) → length X ≡ 17 → X ≡ at_columns 2 12 X ++ at_columns 13 18 X
pieces_name X long = cut 0 11 X ∙ ap (λ l. take 11 X ++ l) (last 11 6 X long)

-- the columns of what was put together
pub first_at : (a tail : List ℕ) → length a ≡ 5 → at_columns 2 6 (a ++ tail) ≡ a
first_at a tail long = take_at a tail 5 long

pub behind_one : (a tail : List ℕ) → length a ≡ 5 → drop 5 (a ++ tail) ≡ tail
behind_one a tail long = drop_at a tail 5 long

pub behind_two : (a b tail : List ℕ) → length a ≡ 5 → length b ≡ 5 → drop 10 (a ++ (b ++ tail)) ≡ tail
behind_two a b tail la lb =
    sym (drop-drop 5 5 (a ++ (b ++ tail))) ∙ ap (drop 5) (drop_at a (b ++ tail) 5 la) ∙ drop_at b tail 5 lb

pub behind_three : (a b c tail : List ℕ) → length a ≡ 5 → length b ≡ 5 → length c ≡ 5 → drop 15 (a ++ (b ++ (c ++ tail))) ≡ tail
behind_three a b c tail la lb lc =
    sym (drop-drop 5 10 (a ++ (b ++ (c ++ tail)))) ∙ ap (drop 5) (behind_two a b (c ++ tail) la lb) ∙ drop_at c tail 5 lc

pub second_at : (a b tail : List ℕ) → length a ≡ 5 → length b ≡ 5 → at_columns 7 11 (a ++ (b ++ tail)) ≡ b
second_at a b tail la lb = ap (take 5) (behind_one a (b ++ tail) la) ∙ take_at b tail 5 lb

pub third_at : (a b c tail : List ℕ) → length a ≡ 5 → length b ≡ 5 → length c ≡ 5 → at_columns 12 16 (a ++ (b ++ (c ++ tail))) ≡ c
third_at a b c tail la lb lc = ap (take 5) (behind_two a b (c ++ tail) la lb) ∙ take_at c tail 5 lc

pub last_at : (a b c : List ℕ) (x y : ℕ) → length a ≡ 5 → length b ≡ 5 → length c ≡ 5 → at_columns 18 18 (a ++ (b ++ (c ++ (x ∷ y ∷ [])))) ≡ y ∷ []
last_at a b c x y la lb lc =
    let X = a ++ (b ++ (c ++ (x ∷ y ∷ []))) in
    ap (take 1) (sym (drop-drop 1 15 X) ∙ ap (drop 1) (behind_three a b c (x ∷ y ∷ []) la lb lc))

-- a piece of one column is its byte
pub one_byte : (l : List ℕ) → length l ≡ 1 → l ≡ get_or l 0 0 ∷ []
one_byte [] e = absurd (omega arith)
one_byte (c ∷ []) e = refl
one_byte (c ∷ d ∷ l) e = absurd (omega arith)
