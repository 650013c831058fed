use Rattle.std.proofs.Common.{◌≡◌, ◌++◌, drop}
use Rattle.std.specs.List.{flat_map}
use Rattle.md_hlds.specs.Hlds.{type_defs_of}
use Rattle.md_reader.specs.Duplicates as spec
use Rattle.md_reader.specs.Views.{all_declared}
use Rattle.md_reader.proofs.duplicates.functors.Given as goal

-- what is declared so far and in the rest is the whole
abbrev pub invariant-loop-type_definition : goal.invariant-loop-type_definition
invariant-loop-type_definition l = all_declared l.declared.items ++ flat_map spec.declared_functors (type_defs_of (drop l.type_definition-index l.types)) ≡ all_declared l.fn.declared.items ++ flat_map spec.declared_functors (type_defs_of l.types)
