use Rattle.std.proofs.Common.{◌≡◌}
use Rattle.md_inst.specs.Instantiation.{nothing_known}
use Rattle.md_inst.specs.Kinds.{inst_map_of}
use Rattle.md_modes.proofs.ends.nothing_known.Given as goal

abbrev pub invariant-loop-turn : goal.invariant-loop-turn
invariant-loop-turn l = inst_map_of l.insts.items ≡ nothing_known l._turn
