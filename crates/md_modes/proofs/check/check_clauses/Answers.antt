use Rattle.std.proofs.Common.{◌∙◌, arith}
use Rattle.std.proofs.lemmas.Result.{err_from_is_err_and}
use Rattle.md_hlds.specs.Hlds.{hlds_of}
use Rattle.md_modes.specs.Classes.{notes_told}
use Rattle.md_modes.proofs.ClauseLoops.{clauses-more, clauses-fault, clauses-end, notes-more, notes-end}
use Rattle.md_modes.proofs.check.check_clauses.Goals as goal

pub loop-pred-preserved : goal.loop-pred-preserved
loop-pred-preserved c =
    let h = hlds_of c.args.names.now in
    let ps = c.args.preds.now in
    let i = c.loop-pred.pred-index in
    let p = c.pred-item.result in
    let inv = c.loop-pred.invariant in
    let found = c.in_ok-check_clause.ensures in (
      inv.0 ∙ clauses-more h ps i p c.loop-pred-test.true c.pred-item.is found.checked,
      notes-more h ps i p (notes_told c.loop-pred.notes.items) (notes_told c.check_clause.new.notes.items) _ c.loop-pred-test.true c.pred-item.is found.notes inv.1,
    )

pub returns-in_err-check_clause-clause-checked : goal.returns-in_err-check_clause-clause-checked
returns-in_err-check_clause-clause-checked c =
    let told = err_from_is_err_and c.from_residual.result c.from_residual.ensures.1 in
    rw (told.1, told.2)
    (λ ne. c.loop-pred.invariant.0
    ∙ clauses-fault (hlds_of c.args.names.now) c.args.preds.now c.loop-pred.pred-index c.pred-item.result _ c.loop-pred-test.true c.pred-item.is (c.in_err-check_clause.ensures.checked ne))

pub returns-clause-checked : goal.returns-clause-checked
returns-clause-checked c = c.loop-pred.invariant.0 ∙ clauses-end (hlds_of c.args.names.now) c.args.preds.now c.loop-pred.pred-index (omega arith)

pub returns-clause-notes : goal.returns-clause-notes
returns-clause-notes c = notes-end (hlds_of c.args.names.now) c.args.preds.now c.loop-pred.pred-index _ _ (omega arith) c.loop-pred.invariant.1
