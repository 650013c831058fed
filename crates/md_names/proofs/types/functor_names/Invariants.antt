use Rattle.std.proofs.Common.{drop}
use Rattle.md_hlds.specs.Hlds.{type_defs_of}
use Rattle.md_names.specs.Maps.{AreFunctorNames}
use Rattle.md_names.proofs.types.functor_names.Given as goal

abbrev pub invariant-loop-place : goal.invariant-loop-place
invariant-loop-place l = AreFunctorNames l.names (type_defs_of (drop l.place l.program.types.items))
