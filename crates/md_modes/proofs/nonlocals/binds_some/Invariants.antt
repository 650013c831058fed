use Rattle.std.proofs.Common.{◌≡◌, false, ◌&&◌}
use Rattle.md_inst.specs.Instantiation.{known_at, is_newly_bound, some_below}
use Rattle.md_modes.specs.Joins.{occurs}
use Rattle.md_inst.specs.Kinds.{inst_map_of}
use Rattle.md_modes.proofs.nonlocals.binds_some.Given as goal

abbrev pub invariant-loop-number : goal.invariant-loop-number
invariant-loop-number l = some_below l.number (λ x. occurs l.outside x && is_newly_bound (known_at (inst_map_of l.before) x) (known_at (inst_map_of l.after) x)) ≡ false
