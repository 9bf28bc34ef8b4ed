use Rattle.std.proofs.Common.{◌≡◌, ltb, Some, None, ⊎_elim, ◌∙◌, rules}
use Rattle.std.proofs.lemmas.Bool.{lt-ltb, le-ltb, cases_lt, cond-true, cond-false}
use Rattle.plans.specs.Equipment.{place_at, height_at}
use Rattle.plans.specs.Sound.{height_kept, height_none}
use Rattle.plans.proofs.equipment.methods.EquipmentPlan.height.Goals as goal

pub returns : goal.returns
returns c =
    let e = c.args.self.now in
    let item = c.args.item in
    record {
      answer = ⊎_elim
          (λ l. let there : c.place.result ≡ Some (place_at e.places item) =
          c.place.ensures.answer ∙ cond-true (ltb item e.filled) (Some (place_at e.places item)) None (lt-ltb item e.filled l) in
          let read : c.map_or.result ≡ height_at e.places item = search rules in
          read ∙ height_kept e.places e.filled e.good item l)
          (λ g. let there : c.place.result ≡ None =
          c.place.ensures.answer ∙ cond-false (ltb item e.filled) (Some (place_at e.places item)) None (le-ltb item e.filled g) in
          let read : c.map_or.result ≡ 0 = search rules in
          read ∙ height_none e.places e.filled e.good item g)
          (cases_lt item e.filled);
    }
