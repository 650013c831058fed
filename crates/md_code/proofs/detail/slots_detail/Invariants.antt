use Rattle.std.proofs.Common.{◌≡◌, ◌++◌, drop}
use Rattle.md_code.specs.Details.{from_slots}
use Rattle.md_code.proofs.detail.slots_detail.Given as goal

abbrev pub invariant-loop-from : goal.invariant-loop-from
invariant-loop-from l = from_slots l.places ≡ l.inputs.items ++ from_slots (drop l.from-index l.places)
