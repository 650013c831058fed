use Rattle.std.proofs.Common.{◌≡◌, drop}
use Rattle.md_hlds.specs.Hlds.{hlds_of, procedures_of}
use Rattle.md_modes.specs.Declarations as spec
use Rattle.md_modes.proofs.declarations.check_predicates.Given as goal

abbrev pub invariant-loop-pred : goal.invariant-loop-pred
invariant-loop-pred l = spec.procedures (hlds_of l.names).types (procedures_of l.preds) ≡ spec.procedures (hlds_of l.names).types (procedures_of (drop l.pred-index l.preds))
