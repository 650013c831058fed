use Rattle.std.proofs.Common.{◌≡◌, drop}
use Rattle.md_hlds.specs.Hlds.{procedures_of}
use Rattle.md_modes.specs.Modes as spec
use Rattle.md_modes.proofs.main_predicate.has_main.Given as goal

abbrev pub invariant-loop-pred : goal.invariant-loop-pred
invariant-loop-pred l = spec.has_main (procedures_of l.preds) ≡ spec.has_main (procedures_of (drop l.pred-index l.preds))
