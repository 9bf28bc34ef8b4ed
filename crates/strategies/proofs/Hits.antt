-- How often a number is among others, and that their least and their greatest are among them. Assumes nothing.
use Rattle.std.proofs.Common.{◌≡◌, ℕ, ◌<◌, ◌≤◌, min, max, eqb, ◌⊎◌, List, [], ◌∷◌, length, refl, ap, arith}
use Rattle.std.proofs.lemmas.Bool.{eq-eqb}
use Rattle.lists.specs.Lists.{keep}
use Rattle.lists.proofs.Kept.{one, kept_cons}
use Rattle.strategies.specs.Resolve.{least_of, greatest_of}

-- how many of the numbers are d
abbrev pub hits : ℕ → List ℕ → ℕ
hits d xs = length (keep (λ x. eqb x d) xs)

pub hits_head : (d x : ℕ) (xs : List ℕ) → x ≡ d → 0 < hits d (x ∷ xs)
hits_head d x xs e = let front = kept_cons (λ y. eqb y d) x xs in let same : one (eqb x d) ≡ 1 = ap one (eq-eqb x d e) in omega arith

hits_there : (d x : ℕ) (xs : List ℕ) → 0 < hits d xs → 0 < hits d (x ∷ xs)
hits_there d x xs h = let front = kept_cons (λ y. eqb y d) x xs in omega arith

-- a hit is at the head or further on
hits_where : (d x : ℕ) (xs : List ℕ) → 0 < hits d (x ∷ xs) → (x ≡ d) ⊎ (0 < hits d xs)
hits_where d x xs h = let front = kept_cons (λ y. eqb y d) x xs in grind arith

-- the least number is one of the list, and at most each of it
pub least_hit : (x : ℕ) (ys : List ℕ) → 0 < hits (least_of x ys) (x ∷ ys)
least_hit x [] = hits_head x x [] refl
least_hit x (y ∷ ys) = let m = least_of (min x y) ys in let there = hits_where m (min x y) ys (least_hit (min x y) ys) in grind (arith, hits_head m x (y ∷ ys), hits_there m x (y ∷ ys), hits_head m y ys, hits_there m y ys)

least_first : (x : ℕ) (ys : List ℕ) → least_of x ys ≤ x
least_first x [] = omega arith
least_first x (y ∷ ys) = let h = least_first (min x y) ys in omega arith

pub least_le : (x d : ℕ) (ys : List ℕ) → 0 < hits d (x ∷ ys) → least_of x ys ≤ d
least_le x d [] h = grind (arith, hits_where d x [] h)
least_le x d (y ∷ ys) h = grind (arith, hits_where d x (y ∷ ys) h, hits_where d y ys, least_le (min x y) d ys, hits_there d (min x y) ys, least_first (min x y) ys)

-- the greatest number is one of the list, and at least each of it
pub greatest_hit : (x : ℕ) (ys : List ℕ) → 0 < hits (greatest_of x ys) (x ∷ ys)
greatest_hit x [] = hits_head x x [] refl
greatest_hit x (y ∷ ys) = let m = greatest_of (max x y) ys in let there = hits_where m (max x y) ys (greatest_hit (max x y) ys) in grind (arith, hits_head m x (y ∷ ys), hits_there m x (y ∷ ys), hits_head m y ys, hits_there m y ys)

greatest_first : (x : ℕ) (ys : List ℕ) → x ≤ greatest_of x ys
greatest_first x [] = omega arith
greatest_first x (y ∷ ys) = let h = greatest_first (max x y) ys in omega arith

pub greatest_le : (x d : ℕ) (ys : List ℕ) → 0 < hits d (x ∷ ys) → d ≤ greatest_of x ys
greatest_le x d [] h = grind (arith, hits_where d x [] h)
greatest_le x d (y ∷ ys) h = grind (arith, hits_where d x (y ∷ ys) h, hits_where d y ys, greatest_le (max x y) d ys, hits_there d (max x y) ys, greatest_first (max x y) ys)
