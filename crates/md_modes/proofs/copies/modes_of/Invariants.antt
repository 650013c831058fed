use Rattle.std.proofs.Common.{◌≡◌, ◌++◌, drop}
use Rattle.md_hlds.specs.Hlds.{args_of}
use Rattle.md_inst.specs.Simple.{modes_of}
use Rattle.md_modes.proofs.copies.modes_of.Given as goal

abbrev pub invariant-loop-arg : goal.invariant-loop-arg
invariant-loop-arg l = l.modes.items ++ modes_of (args_of (drop l.arg-index l.args)) ≡ modes_of (args_of l.args)
