use Rattle.std.proofs.Common.{◌≡◌, drop}
use Rattle.md_hlds.specs.Hlds.{hlds_of, procedures_of}
use Rattle.md_det.specs.Main.{main_of, main_from}
use Rattle.md_det.proofs.main_predicate.main_of.Given as goal

abbrev pub invariant-loop-number : goal.invariant-loop-number
invariant-loop-number l = main_of (hlds_of l.program) ≡ main_from l.number (procedures_of (drop l.number l.program.preds.items))
