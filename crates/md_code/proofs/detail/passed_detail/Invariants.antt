use Rattle.std.proofs.Common.{◌≡◌, ◌++◌, drop}
use Rattle.md_hlds.specs.Hlds.{args_of}
use Rattle.md_code.specs.Details.{call_inputs, call_outputs}
use Rattle.md_code.proofs.detail.passed_detail.Given as goal

abbrev pub invariant-loop-number : goal.invariant-loop-number
invariant-loop-number l = record {
  inputs : call_inputs (args_of l.args) l.heads l.places ≡ l.inputs.items ++ call_inputs (args_of (drop l.number l.args)) (drop l.number l.heads) (drop l.number l.places);
  outputs : call_outputs (args_of l.args) l.heads l.places ≡ l.outputs.items ++ call_outputs (args_of (drop l.number l.args)) (drop l.number l.heads) (drop l.number l.places);
}
