-- The channel plan keeps the laws of a plan, and an item's height is the place of its leading binary digit. Assumes nothing.
use Rattle.std.specs.Prelude.{◌≡◌, ℕ, zero, suc, ◌*◌, ◌/◌, ◌^◌, ◌<◌, ◌≤◌, true, false, ◌&&◌, List, [], ◌∷◌, length, nat_lt, refl}
use Rattle.std.proofs.Common.{sym, subst, ◌∙◌, arith}
use mathlib.Core.List.Memᴰ
use Rattle.std.proofs.lemmas.Bool.Decides.{nat_tests}
use Rattle.std.proofs.lemmas.Bool.{cond_both, and_parts, ltb-true}
use Rattle.std.specs.List.{AllByRecursion}
use Rattle.lists.specs.Lists.{Once}
use Rattle.plans.specs.Items.{Lawful, tallest, rise, height_of}
use Rattle.plans.specs.Channels.{halves, channels}
use Rattle.plans.specs.Heights.{height_step, no_containers_flat}

-- what holds of no containers, and of the one that is half the item, holds of the item's containers
by_half : (P : List ℕ → Type 0) (item : ℕ) → P [] → (1 < item → item < 256 → P (item / 2 ∷ [])) → P (halves item)
by_half P item none some =
    cond_both (nat_lt 1 item && nat_lt item 256) (item / 2 ∷ []) [] P
    (λ e. let both = and_parts (nat_lt 1 item) (nat_lt item 256) e in some (ltb-true 1 item both.0) (ltb-true item 256 both.1))
    (λ e. none)

lower : (item : ℕ) → AllByRecursion (λ c. c < item) (halves item)
lower item = by_half (λ xs. AllByRecursion (λ c. c < item) xs) item tt (λ p q. (omega arith, tt))

-- an item below 2 ^ (k + 1) lies in at most k containers
rise_low : (k most item : ℕ) → item < 2 ^ suc k → rise halves most item ≤ k
rise_low k zero item h = omega arith
rise_low zero (suc most) item h = by_half (λ xs. tallest (rise halves most) xs ≤ 0) item (omega arith) (λ p q. absurd (omega arith))
rise_low (suc k) (suc most) item h =
    by_half (λ xs. tallest (rise halves most) xs ≤ suc k) item (omega arith)
    (λ p q. let half : item / 2 < 2 ^ suc k = omega arith in let l = rise_low k most (item / 2) half in omega arith)

unknown : (item : ℕ) → channels.known item ≡ false → halves item ≡ []
unknown item e = by_half (λ xs. xs ≡ []) item refl (λ p q. absurd (grind (arith, nat_tests)))

pub channels_lawful : Lawful channels
channels_lawful = record {
  small = λ item e. grind (arith, nat_tests);
  unknown = unknown;
  flat = λ item e. no_containers_flat channels lower item (unknown item e);
  few = λ item. by_half (λ xs. length xs ≤ 2) item (omega arith) (λ p q. omega arith);
  different = λ item. by_half Once item tt (λ p q. (Memᴰ.not-nil, tt));
  placed = λ item. by_half (λ xs. AllByRecursion (λ c. channels.known c ≡ true) xs) item tt (λ p q. (grind (arith, nat_tests), tt));
  lower = lower;
  low = λ item. let P : ℕ → Type 0 = λ h. h ≤ 7 in
      subst P (sym (height_step channels lower item))
      (by_half (λ xs. tallest (height_of channels) xs ≤ 7) item (omega arith)
      (λ p q. let l = rise_low 6 (item / 2) (item / 2) (omega arith) in omega arith));
}

-- halving an item until 1 is left takes as many steps as its leading binary digit has places behind it
pub height_by_digit : (k item : ℕ) → 2 ^ k ≤ item → item < 2 * 2 ^ k → item < 256 → height_of channels item ≡ k
height_by_digit zero item l h m =
    height_step channels lower item ∙ by_half (λ xs. tallest (height_of channels) xs ≡ 0) item refl (λ p q. absurd (omega arith))
height_by_digit (suc k) item l h m =
    height_step channels lower item ∙ cond_both (nat_lt 1 item && nat_lt item 256) (item / 2 ∷ []) [] (λ xs. tallest (height_of channels) xs ≡ suc k)
    (λ e. let half = height_by_digit k (item / 2) (omega arith) (omega arith) (omega arith) in omega arith)
    (λ e. absurd (let two : 2 ≤ 2 ^ suc k = two_more k in grind (arith, nat_tests)))
  where
    two_more : (k : ℕ) → 2 ≤ 2 ^ suc k
    two_more zero = omega arith
    two_more (suc k) = let r = two_more k in omega arith
