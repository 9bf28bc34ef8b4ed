use Rattle.std.proofs.Common.{◌≡◌, ◌≢◌, rules, tests}
use Rattle.std.proofs.lemmas.Grind.{common_steps}
use Rattle.std.proofs.Common.{arith}
use Rattle.std.proofs.lemmas.Iterator.{first_from_Range}
use Rattle.strategies.specs.Names.{name_of}
use Rattle.strategies.proofs.names.number_named.Goals as goal

pub returns : goal.returns
returns c =
    let first = first_from_Range _ _ _ c.find.result (λ n. name_of n ≡ c.args.text.now) (λ n. name_of n ≢ c.args.text.now) c.find.ensures.ran
    (λ x q k. search (rules, tests)) (λ x q k. (search (rules, tests), search (rules, tests))) in
    grind (arith, common_steps)
