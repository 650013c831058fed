use Rattle.std.proofs.Common.{◌≡◌, drop}
use Rattle.md_inst.specs.Kinds.{inst_map_of}
use Rattle.md_modes.specs.Views.{some_state}
use Rattle.md_modes.proofs.finding.Change.has_state.Given as goal

abbrev pub invariant-loop-number : goal.invariant-loop-number
invariant-loop-number l =
    some_state (inst_map_of l.self.before.now) (inst_map_of l.self.after.now)
    ≡ some_state (drop l.number (inst_map_of l.self.before.now)) (drop l.number (inst_map_of l.self.after.now))
