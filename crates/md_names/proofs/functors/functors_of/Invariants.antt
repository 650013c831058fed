use Rattle.std.proofs.Common.{drop}
use Rattle.md_hlds.specs.Hlds.{type_defs_of}
use Rattle.md_names.specs.Maps.{AreFunctorsFrom}
use Rattle.md_names.proofs.functors.functors_of.Given as goal

abbrev pub invariant-loop-place : goal.invariant-loop-place
invariant-loop-place l = AreFunctorsFrom l.functors l.place (type_defs_of (drop l.place l.program.types.items))
