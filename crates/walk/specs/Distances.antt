-- The laws of distances. Assumes nothing.
use Rattle.std.specs.Prelude.{◌≡◌, ℕ, ◌+◌, ◌<◌, ◌≤◌, min, Option, Some, None, IfSome, refl}
use Rattle.std.proofs.Common.{ap, arith, ⊎_elim}
use Rattle.std.proofs.lemmas.Bool.Decides.{nat_tests}
use Rattle.std.proofs.lemmas.Bool.{lt-ltb, le-ltb, cases_lt}
use Rattle.walk.specs.Weights.{Laws}
use Rattle.walk.specs.Least.{none, lesser, further}

assoc : (x y z : Option ℕ) → lesser (lesser x y) z ≡ lesser x (lesser y z)
assoc None y z = refl
assoc (Some x) None z = refl
assoc (Some x) (Some y) None = refl
assoc (Some x) (Some y) (Some z) = let e : min (min x y) z ≡ min x (min y z) = omega arith in ap (λ n. Some n) e

comm : (x y : Option ℕ) → lesser x y ≡ lesser y x
comm None None = refl
comm None (Some y) = refl
comm (Some x) None = refl
comm (Some x) (Some y) = let e : min x y ≡ min y x = omega arith in ap (λ n. Some n) e

-- the number of a distance, or 255 for none
abbrev pub number : Option ℕ → ℕ
number None = 255
number (Some d) = d

-- distances up to 254 are told apart by their numbers, from each other and from none
pub same_distance : (x y : Option ℕ) → IfSome x (λ d. d ≤ 254) → IfSome y (λ d. d ≤ 254) → number x ≡ number y → x ≡ y
same_distance None None p q e = refl
same_distance None (Some d) p q e = absurd (omega (arith, q, e))
same_distance (Some d) None p q e = absurd (omega (arith, p, e))
same_distance (Some c) (Some d) p q e = ap (λ n. Some n) e

-- what a step gives
pub step_on : (x : ℕ) → x < 254 → further (Some x) ≡ Some (x + 1)
step_on x l = rw (lt-ltb x 254 l)

pub step_off : (x : ℕ) → 254 ≤ x → further (Some x) ≡ None
step_off x l = rw (le-ltb x 254 l)

-- a step later, a lesser distance is the lesser
spreads : (x y : Option ℕ) → further (lesser x y) ≡ lesser (further x) (further y)
spreads None y = refl
spreads (Some x) None =
    ⊎_elim (λ l. rw (lt-ltb x 254 l)) (λ g. rw (le-ltb x 254 g)) (cases_lt x 254)
spreads (Some x) (Some y) = grind (arith, nat_tests)

pub least_laws : Laws none lesser further
least_laws = record { assoc = assoc; comm = comm; neutral = λ x. refl; keeps = refl; spreads = spreads }
