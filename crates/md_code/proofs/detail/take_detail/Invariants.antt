use Rattle.std.proofs.Common.{◌≡◌, ◌++◌, drop}
use Rattle.md_code.specs.Details.{met_parts, taken_parts}
use Rattle.md_code.proofs.detail.take_detail.Given as goal

abbrev pub invariant-loop-to : goal.invariant-loop-to
invariant-loop-to l = record {
  met : met_parts l.bound 0 l.places ≡ l.met.items ++ met_parts l.bound l.from (drop l.to-index l.places);
  taken : taken_parts l.bound 0 l.places ≡ l.taken.items ++ taken_parts l.bound l.from (drop l.to-index l.places);
}
