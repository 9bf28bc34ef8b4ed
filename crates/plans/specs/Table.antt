-- What the equipment table means. Assumes nothing.
use Rattle.plans.specs.declared.equipment.Equipment.{Equipment}
use Rattle.plans.specs.Items.{Items}
use Rattle.plans.specs.Equipment.{equipment}

-- the plan that the filled places hold
abbrev pub table : Equipment → Items
table e = equipment e.places e.filled
