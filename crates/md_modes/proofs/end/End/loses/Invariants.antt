use Rattle.std.proofs.Common.{◌≡◌, drop}
use Rattle.md_inst.specs.Kinds.{inst_map_of}
use Rattle.md_modes.specs.Branches.{some_of}
use Rattle.md_modes.specs.Joins.{end_of, occurs}
use Rattle.md_modes.specs.Shares.{numbers, lost}
use Rattle.md_modes.proofs.end.End.loses.Given as goal

abbrev pub invariant-loop-variable : goal.invariant-loop-variable
invariant-loop-variable l =
    some_of (lost (occurs l.self.view.outside) (inst_map_of l.self.view.before.now) (inst_map_of l.common) (end_of l.self)) (numbers l.shared)
    ≡ some_of (lost (occurs l.self.view.outside) (inst_map_of l.self.view.before.now) (inst_map_of l.common) (end_of l.self)) (numbers (drop l.variable-index l.shared))
