use Rattle.chains.proofs.Long.{long_found, long_made}
use Rattle.chains.proofs.bounds.too_long_is_seen_in_the_counts.Goals as goal

pub returns : goal.returns
returns c = λ n E w short p c lp lc free.
    (λ found. long_found n E w short p c lp lc free found.0 found.1 found.2 found.3 found.4, long_made n E w short p c lp lc free)
