use Rattle.std.proofs.Common.{◌≡◌, ◌++◌, drop}
use Rattle.md_hlds.specs.Hlds.{hlds_of, procedures_of, goals_before}
use Rattle.md_feedback.specs.Search.{clause_pairs, program_pairs}
use Rattle.md_feedback.proofs.search.candidates.Given as goal

abbrev pub invariant-loop-owner : goal.invariant-loop-owner
invariant-loop-owner l =
    (l.number ≡ goals_before (procedures_of l.moded.preds.items) l.owner)
    × (program_pairs (hlds_of l.moded) l.heavy
    ≡ l.pairs ++ clause_pairs (hlds_of l.moded) l.heavy l.owner l.number (procedures_of (drop l.owner l.moded.preds.items)))
