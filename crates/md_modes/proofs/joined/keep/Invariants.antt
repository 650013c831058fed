use Rattle.std.proofs.Common.{◌≡◌, ◌++◌, drop}
use Rattle.md_inst.specs.Kinds.{inst_map_of}
use Rattle.md_modes.specs.Joins.{end_of}
use Rattle.md_modes.specs.Shares.{commons, kept}
use Rattle.md_modes.proofs.joined.keep.Given as goal

abbrev pub invariant-loop-variable : goal.invariant-loop-variable
invariant-loop-variable l =
    (commons (inst_map_of l.common.items) (end_of l.end) (drop l.variable-index l.shared) ≡ commons (inst_map_of l.fn.common.items) (end_of l.end) l.shared)
    × (l.kept.items ++ kept (inst_map_of l.first) (inst_map_of l.common.items) (end_of l.end) (drop l.variable-index l.shared)
    ≡ kept (inst_map_of l.first) (inst_map_of l.fn.common.items) (end_of l.end) l.shared)
