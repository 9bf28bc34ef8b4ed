-- The tests for the limits, against chains of any length. Assumes nothing.
use Rattle.std.proofs.Common.{◌≡◌, ℕ, zero, suc, ◌*◌, ◌<◌, ◌≤◌, true, false, ◌⊎◌, sym, inl, inr, arith}
use Rattle.std.proofs.lemmas.Bool.{cases_Bool}
use Rattle.chains.specs.Chains.{Members, Chain, Within, Acyclic, Short, count}
use Rattle.chains.specs.Limits.{LeadsExactly, TooLongExactly, TooManyExactly, SoundByTests}
use Rattle.chains.specs.Tests.{too_long, too_many}
use Rattle.chains.proofs.Listing.{counted_is_chain, chain_is_counted}
use Rattle.chains.proofs.Steps.{chain_cast, chain_end_known, chain_first, chain_front, chain_join}
use Rattle.chains.proofs.Table.{eight_when_short, few_everywhere, short_by_eight}
use Rattle.chains.proofs.Told.{leads_found, leads_yes, long_found, long_no, long_none, long_yes, many_found, many_no, many_none}

-- a circle could be gone round eight times
pub short_acyclic : {E : Members} → Short E → Acyclic E
short_acyclic {E} short a k d =
    let eight = round 8 in
    let low = short a a (8 * suc k) eight in
    omega arith
  where
    round : (i : ℕ) → Chain E a (i * suc k) a
    round zero = chain_cast (sym (omega arith)) Chain.here
    round (suc i) = chain_cast (sym (omega arith)) (chain_join d (round i))

pub leads_exactly : LeadsExactly
leads_exactly n E w short a s = (
  λ e. let found = leads_found n E a s e in (found.0, counted_is_chain n E a s found.0 found.2),
  λ d. leads_yes n E a s d.0 (short a s d.0 d.1) (chain_is_counted n E w d.1),
)

-- a chain longer than 7 begins with one of 8, between known accounts
pub long_seen : (n : ℕ) (E : Members) → Within n E → (a s k : ℕ) → 7 < k → Chain E a k s → too_long n E ≡ true
long_seen n E w a s k long d =
    let front = chain_front 8 long d in
    let first = chain_first front.1 in
    let top = (w a first.0 first.1).0 in
    long_yes n E a front.0 top (chain_end_known w top front.1) (chain_is_counted n E w front.1)

pub too_long_exactly : TooLongExactly
too_long_exactly n E w = (
  λ e. let found = long_found n E e in (found.0, found.1, 8, omega arith, counted_is_chain n E found.0 found.1 8 found.2),
  λ d. long_seen n E w d.0 d.1 d.2 d.3 d.4,
)

-- the tests that fail on a short set with low counts
pub short_passes : (n : ℕ) (E : Members) → Within n E → Short E → too_long n E ≡ false
short_passes n E w short = long_no n E (λ a s ha hs. eight_when_short n E w short a s)

pub passes_short : (n : ℕ) (E : Members) → Within n E → too_long n E ≡ false → Short E
passes_short n E w e = short_by_eight n E w (long_none n E e)

pub passes_few : (n : ℕ) (E : Members) → Within n E → Short E → too_many n E ≡ false → (a s k : ℕ) → count n E a s k ≤ 99999
passes_few n E w short e = few_everywhere n E w short 99999 (omega arith) (many_none n E e)

pub too_many_exactly : TooManyExactly
too_many_exactly n E w short = (many_found n E, λ d. pick d.0 d.1 d.2 d.3 (cases_Bool (too_many n E)))
  where
    pick : (a s k : ℕ) → 99999 < count n E a s k → (too_many n E ≡ true) ⊎ (too_many n E ≡ false) → too_many n E ≡ true
    pick a s k over (inl e) = e
    pick a s k over (inr e) = let low = passes_few n E w short e a s k in absurd (omega arith)

pub sound_by_tests : SoundByTests
sound_by_tests n E w = (
  λ sound. (short_passes n E w sound.short, many_no n E (λ a s k ha hs hk. sound.few a s k)),
  λ passed.
      let short = passes_short n E w passed.0 in
      record { within = w; acyclic = short_acyclic short; short = short; few = passes_few n E w short passed.1 },
)
