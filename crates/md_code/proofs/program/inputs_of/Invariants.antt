use Rattle.std.proofs.Common.{◌≡◌, ◌++◌, drop}
use Rattle.md_hlds.specs.Hlds.{args_of}
use Rattle.md_code.specs.Details.{inputs_of}
use Rattle.md_code.proofs.program.inputs_of.Given as goal

abbrev pub invariant-loop-arg : goal.invariant-loop-arg
invariant-loop-arg l = inputs_of (args_of l.args) ≡ l.inputs.items ++ inputs_of (args_of (drop l.arg-index l.args))
