use Rattle.std.proofs.Common.{[], ◌∷◌, arith}
use Rattle.std.proofs.lemmas.List.{length-set, take_more_set}
use Rattle.chains.proofs.Some.{some_join}
use Rattle.model.specs.Grants.{misfit}
use Rattle.model.proofs.Standing.{repeated_push}
use Rattle.records.specs.Records.{standing_in}
use Rattle.records.proofs.grants.Grants.push.Goals as goal

pub invariant_of-self : goal.invariant_of-self
invariant_of-self c =
    let gs = c.args.self.now in let g = c.args.grant in
    let long = length-set gs.records.now gs.standing g in
    let more = take_more_set gs.records.now gs.standing g (omega arith) in
    let joined = some_join (misfit gs.accounts) (standing_in gs) (g ∷ []) in
    let before = gs.fitting in
    let fits = c.requires.fits in
    record {
      room = omega arith;
      fitting = rw more (grind arith);
      once = rw more (repeated_push (standing_in gs) g gs.once c.requires.new);
    }
