use Rattle.std.proofs.Common.{◌≡◌, ◌++◌, drop, map}
use Rattle.md_hlds.specs.Hlds.{type_defs_of}
use Rattle.md_reader.specs.Duplicates as spec
use Rattle.md_reader.specs.Views.{all_declared}
use Rattle.md_reader.proofs.duplicates.type_definitions.Given as goal

-- what is declared so far and in the rest is the whole
abbrev pub invariant-loop-type_definition : goal.invariant-loop-type_definition
invariant-loop-type_definition l = all_declared l.declared.items ++ map spec.declared_type_definition (type_defs_of (drop l.type_definition-index l.types)) ≡ map spec.declared_type_definition (type_defs_of l.types)
