use Rattle.std.proofs.Common.{◌≡◌, drop}
use Rattle.md_hlds.specs.Hlds.{procedures_of}
use Rattle.md_det.specs.Throws.{clauses_have_error}
use Rattle.md_det.proofs.throws.throws.Given as goal

abbrev pub invariant-loop-pred : goal.invariant-loop-pred
invariant-loop-pred l = clauses_have_error (procedures_of l.program.preds.items) ≡ clauses_have_error (procedures_of (drop l.pred-index l.program.preds.items))
