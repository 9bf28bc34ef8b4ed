use Rattle.std.proofs.Common.{◌^◌, refl, arith, rules}
use Rattle.std.proofs.lemmas.Iterator.{YieldsList-from_range, YieldsList-from_map}
use Rattle.std.proofs.lemmas.Iterator.Consumers.{sum_from_yields_List}
use Rattle.std.proofs.lemmas.Iterator.Adapters.{fits_from_length, at_most_from_yields_List}
use Rattle.strategies.specs.Rows.{votes_at}
use Rattle.strategies.proofs.resolving.Settled.total.Goals as goal

pub sum-requires-clause-fits : goal.sum-requires-clause-fits
sum-requires-clause-fits c =
    fits_from_length _ _ 15 (2 ^ 64) (at_most_from_yields_List (YieldsList-from_range 0 15 15 (cc) refl) (omega arith)) c.map.ensures.closure (omega arith) (λ x r q k. search rules)

pub returns : goal.returns
returns c =
    let listed = sum_from_yields_List c.map.result c.sum.result c.sum.ensures.ran
    (YieldsList-from_map _ (votes_at c.args.self.now.rule c.args.sign c.args.self.now.rows.now) (YieldsList-from_range 0 15 15 (cc) refl) c.map.ensures.closure (λ x r q k. search rules)) in
    omega arith
