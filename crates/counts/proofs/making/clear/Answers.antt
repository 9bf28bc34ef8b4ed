use Rattle.std.proofs.Common.{◌≡◌, ℕ, ◌+◌, ◌*◌, ◌<◌, ◌≤◌, cond, ltb, ◌≢◌, List, length, set, sym, ◌∙◌, inl, inr, arith, rules}
use Rattle.std.proofs.lemmas.List.{get_or-set_same, get_or-set_other}
use Rattle.std.proofs.lemmas.Bool.{cases_eq, cond_above}
use Rattle.std.proofs.lemmas.Bool.Decides.{nat_tests}
use Rattle.std.proofs.lemmas.Grind.{common_steps}
use Rattle.chains.specs.Table.{entry, place, size}
use Rattle.counts.specs.Rows.{alone}
use Rattle.chains.proofs.Places.{place_below, same_place}
use Rattle.counts.proofs.making.clear.Goals as goal

pub loop-a-init : goal.loop-a-init
loop-a-init c = (
  λ b s k hb hs hk. let inside : place c.args.n b s k < size c.args.n = place_below c.args.n b s k hb hs hk in
      cond_above b 0 (alone b s k) 0 _ (omega arith) (grind (arith, common_steps)),
  search rules,
)

pub bounds-counts-a : goal.bounds-counts-a
bounds-counts-a c = let a = c.loop-a.a in let h : a < c.args.n = omega arith in omega (arith, place_below c.args.n a a 0 h h (omega arith))

-- one more count of 1 on the diagonal
mark : (t : List ℕ) (n a b s k z : ℕ) → a < n → b < n → s < n → k < 8 → size n ≤ length t → z ≡ place n a a 0 →
    entry t n b s k ≡ cond (ltb b a) (alone b s k) 0 →
    entry (set t z 1) n b s k ≡ cond (ltb b (a + 1)) (alone b s k) 0
mark t n a b s k z ha hb hs hk fits e inv =
    elim (cases_eq (place n b s k) z) [
      | inl same ↦
          let parts = same_place n b s k a a 0 hs ha hk (omega arith) (same ∙ e) in
          let lt : z < length t = omega (arith, place_below n b s k hb hs hk) in
          rw (same, get_or-set_same) (grind (arith, nat_tests, parts.0, parts.1, parts.2))
      | inr other ↦
          let apart : b ≡ a → s ≡ a → k ≡ 0 → ⊥ = λ x y w. other (rw (x, y, w) (sym e)) in
          rw get_or-set_other (inv ∙ grind (arith, nat_tests, apart))
    ]

pub loop-a-preserved : goal.loop-a-preserved
loop-a-preserved c =
    let n = c.args.n in let a = c.loop-a.a in
    let ha : a < n = omega arith in (
      λ b s k hb hs hk. mark c.loop-a.counts n a b s k _ ha hb hs hk (omega arith) (omega arith) (c.loop-a.invariant.0 b s k hb hs hk),
      λ q h. let ne : q ≢ (a * n + a) * 8 = omega (arith, place_below n a a 0 ha ha (omega arith)) in
          rw get_or-set_other (c.loop-a.invariant.1 q h),
    )
