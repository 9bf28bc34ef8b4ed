use Rattle.std.proofs.Common.{rules, of_calls}
use Rattle.std.proofs.lemmas.Iterator.{serves_from_Range}
use Rattle.lister.proofs.Walks.{nothing_more}
use Rattle.lister.proofs.every_chain.+walk_by_place.Goals as goal

pub loop-next-init : goal.loop-next-init
loop-next-init g t c = ((tt, serves_from_Range (λ x q r. search (rules, of_calls)) (λ x l u. search (rules, of_calls))), tt, nothing_more _)
