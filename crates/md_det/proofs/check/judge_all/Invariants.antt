use Rattle.std.proofs.Common.{◌≡◌, ◌+◌, ◌<◌, None, length, drop}
use Rattle.md_hlds.specs.Hlds.{hlds_of, procedures_of}
use Rattle.md_modes.specs.Notes.{program_notes}
use Rattle.md_det.specs.Determinism.{sure}
use Rattle.md_det.specs.Judge.{judgement, and_others, judge_procedures}
use Rattle.md_det.proofs.Counted.{goals_left}
use Rattle.md_det.proofs.check.judge_all.Given as goal

abbrev pub invariant-loop-pred : goal.invariant-loop-pred
invariant-loop-pred l = record {
  told : judge_procedures (hlds_of l.moded) (program_notes (hlds_of l.moded)) 0 (procedures_of l.moded.preds.items)
      ≡ and_others (judgement sure None l.findings.items)
      (judge_procedures (hlds_of l.moded) (program_notes (hlds_of l.moded)) (length l.findings.items) (procedures_of (drop l.pred-index l.moded.preds.items)));
  few : length l.findings.items + goals_left (procedures_of (drop l.pred-index l.moded.preds.items)) < 4294967295;
}
