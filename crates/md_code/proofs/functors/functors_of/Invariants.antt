use Rattle.std.proofs.Common.{◌≡◌, ◌+◌, ℕ, List, length, drop}
use Rattle.md_hlds.specs.Hlds.{type_defs_of}
use Rattle.md_code.specs.Tables.{functors_among}
use Rattle.md_code.specs.Numbers.{number_in, place_among, first_of}
use Rattle.md_code.proofs.functors.functors_of.Given as goal

abbrev pub invariant-loop-family : goal.invariant-loop-family
invariant-loop-family l = record {
  numbers : (name : List ℕ) → (arity : ℕ) → first_of (number_in l.numbers name arity) (place_among name arity l.number (functors_among (type_defs_of (drop l.family-index l.program.types.items))))
      ≡ place_among name arity 0 (functors_among (type_defs_of l.program.types.items));
  count : l.number + length (functors_among (type_defs_of (drop l.family-index l.program.types.items))) ≡ length (functors_among (type_defs_of l.program.types.items));
}
