use Rattle.std.proofs.Common.{◌≡◌, ◌++◌, drop}
use Rattle.md_hlds.specs.Hlds.{hlds_types_of}
use Rattle.md_modes.proofs.copies.+copies.Given as goal

abbrev pub invariant-copy_types-loop-ty : goal.invariant-copy_types-loop-ty
invariant-copy_types-loop-ty l = hlds_types_of l.copies.items ++ hlds_types_of (drop l.ty-index l.types) ≡ hlds_types_of l.types
