use Rattle.std.proofs.Common.{◌≡◌, drop}
use Rattle.md_hlds.specs.Hlds.{args_of}
use Rattle.md_det.specs.Faults.{has_world}
use Rattle.md_det.proofs.main_predicate.has_io.Given as goal

abbrev pub invariant-loop-arg : goal.invariant-loop-arg
invariant-loop-arg l = has_world (args_of l.args) ≡ has_world (args_of (drop l.arg-index l.args))
