use Rattle.std.proofs.Common.{◌≡◌, ◌++◌, drop}
use Rattle.md_inst.specs.Kinds.{inst_map_of}
use Rattle.md_modes.specs.Notes.{bound_places}
use Rattle.md_modes.proofs.finding.bound_among.Given as goal

abbrev pub invariant-loop-number : goal.invariant-loop-number
invariant-loop-number l = l.bound.items ++ bound_places l.number (drop l.number l.places) (inst_map_of l.insts) ≡ bound_places 0 l.places (inst_map_of l.insts)
