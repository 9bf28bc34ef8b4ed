-- The number of each refusal of the equipment table. Assumes nothing.
use Rattle.std.specs.Prelude.{ℕ}
use Rattle.plans.specs.declared.refusal.EquipmentRefusal.{EquipmentRefusal}
use Rattle.plans.specs.declared.refusal.EquipmentRefusal.TheVariants.{NotNext, BadContainer, TooHigh}

-- 13 to 15, in the order of the checks
abbrev pub refusal_number : EquipmentRefusal → ℕ
refusal_number NotNext = 13
refusal_number BadContainer = 14
refusal_number TooHigh = 15
