use Rattle.std.proofs.Common.{◌≡◌, ◌++◌, drop}
use Rattle.md_hlds.specs.Hlds.{args_of, hlds_types_of}
use Rattle.md_inst.specs.Simple.{types_of}
use Rattle.md_modes.proofs.copies.types_of.Given as goal

abbrev pub invariant-loop-arg : goal.invariant-loop-arg
invariant-loop-arg l = hlds_types_of l.types.items ++ types_of (args_of (drop l.arg-index l.args)) ≡ types_of (args_of l.args)
