use Rattle.std.proofs.Common.{arith}
use Rattle.plans.specs.Sound.{equipment_lawful}
use Rattle.plans.proofs.equipment.Equipment.height_in.Goals as goal

pub map_or-requires : goal.map_or-requires
map_or-requires c =
    let e = c.args.self.now in
    let low = (equipment_lawful e.places e.filled e.good e.within).low in
    λ x e κs l a r h. grind (arith, low)
