use Rattle.std.proofs.Common.{drop}
use Rattle.md_hlds.specs.Hlds.{hlds_of, procedures_of, clause_goals}
use Rattle.md_code.specs.Facts.{facts_from, callees_from}
use Rattle.md_code.proofs.LookupLemmas.{Ahead}
use Rattle.md_code.proofs.surveyed.survey.Given as goal

abbrev pub invariant-loop-pred : goal.invariant-loop-pred
invariant-loop-pred l =
    Ahead (hlds_of l.source.checked.now) (facts_from (hlds_of l.source.checked.now) 0 (clause_goals (procedures_of l.source.checked.now.preds.items)))
    (callees_from 0 (procedures_of l.source.checked.now.preds.items)) (drop l.pred-index l.source.checked.now.preds.items) l.facts.items l.callees.items
