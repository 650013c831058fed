use Rattle.std.proofs.Common.{drop}
use Rattle.md_hlds.specs.Hlds.{hlds_functors_of}
use Rattle.md_names.specs.Maps.{AddsNames}
use Rattle.md_names.proofs.types.add_names.Given as goal

abbrev pub invariant-loop-place : goal.invariant-loop-place
invariant-loop-place l = AddsNames l.initial.names l.names (hlds_functors_of (drop l.place l.functors))
