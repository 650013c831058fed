use Rattle.std.proofs.Common.{◌≡◌, ◌++◌, drop}
use Rattle.md_inst.specs.Kinds.{inst_map_of}
use Rattle.md_modes.specs.Views.{picked}
use Rattle.md_modes.proofs.finding.Change.newly_bound.Given as goal

abbrev pub invariant-loop-number : goal.invariant-loop-number
invariant-loop-number l =
    l.bound.items ++ picked (drop l.number l.self.places.now) (drop l.number (inst_map_of l.self.before.now)) (drop l.number (inst_map_of l.self.after.now))
    ≡ picked l.self.places.now (inst_map_of l.self.before.now) (inst_map_of l.self.after.now)
