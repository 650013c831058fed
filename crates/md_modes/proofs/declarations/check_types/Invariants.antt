use Rattle.std.proofs.Common.{◌≡◌, drop}
use Rattle.md_hlds.specs.Hlds.{hlds_of, type_defs_of}
use Rattle.md_modes.specs.Declarations as spec
use Rattle.md_modes.proofs.declarations.check_types.Given as goal

abbrev pub invariant-loop-ty : goal.invariant-loop-ty
invariant-loop-ty l = spec.families (hlds_of l.names).types (type_defs_of l.types) ≡ spec.families (hlds_of l.names).types (type_defs_of (drop l.ty-index l.types))
