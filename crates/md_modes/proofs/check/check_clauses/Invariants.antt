use Rattle.std.proofs.Common.{◌≡◌, ◌++◌, drop}
use Rattle.md_hlds.specs.Hlds.{hlds_of, procedures_of}
use Rattle.md_modes.specs.Modes as spec
use Rattle.md_modes.specs.Notes.{notes_from}
use Rattle.md_modes.specs.Classes.{notes_told}
use Rattle.md_modes.proofs.check.check_clauses.Given as goal

abbrev pub invariant-loop-pred : goal.invariant-loop-pred
invariant-loop-pred l =
    (spec.clauses (hlds_of l.names) (procedures_of l.preds) ≡ spec.clauses (hlds_of l.names) (procedures_of (drop l.pred-index l.preds)))
    × (notes_told l.notes.items ++ notes_from (hlds_of l.names) (procedures_of (drop l.pred-index l.preds))
    ≡ notes_told l.fn.notes.items ++ notes_from (hlds_of l.names) (procedures_of l.preds))
