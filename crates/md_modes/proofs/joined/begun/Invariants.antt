use Rattle.std.proofs.Common.{◌≡◌, ◌++◌, drop}
use Rattle.md_inst.specs.Kinds.{inst_map_of}
use Rattle.md_modes.specs.Shares.{begun}
use Rattle.md_modes.proofs.joined.begun.Given as goal

abbrev pub invariant-loop-number : goal.invariant-loop-number
invariant-loop-number l = l.shared.items ++ begun l.number (drop l.number (inst_map_of l.before)) (drop l.number (inst_map_of l.insts)) ≡ begun 0 (inst_map_of l.before) (inst_map_of l.insts)
