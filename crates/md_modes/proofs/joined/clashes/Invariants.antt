use Rattle.std.proofs.Common.{◌≡◌, drop}
use Rattle.md_inst.specs.Kinds.{inst_map_of}
use Rattle.md_modes.specs.Shares.{some_clash}
use Rattle.md_modes.proofs.joined.clashes.Given as goal

abbrev pub invariant-loop-variable : goal.invariant-loop-variable
invariant-loop-variable l =
    some_clash (inst_map_of l.before) (inst_map_of l.common) l.shared ≡ some_clash (inst_map_of l.before) (inst_map_of l.common) (drop l.variable-index l.shared)
