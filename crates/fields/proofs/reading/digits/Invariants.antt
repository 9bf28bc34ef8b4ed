use Rattle.std.proofs.Common.{◌≡◌, ◌^◌, ◌<◌, drop}
use Rattle.fields.specs.Fields.{digits_after}
use Rattle.fields.proofs.reading.digits.Given as goal

abbrev pub invariant-loop-d : goal.invariant-loop-d
invariant-loop-d l = (digits_after l.value (drop l.d-index l.bytes) ≡ digits_after 0 l.bytes) × (l.value < 10 ^ l.d-index)
