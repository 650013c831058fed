use Rattle.std.proofs.Common.{◌∙◌, sym, ap, arith, length}
use Rattle.md_det.proofs.Errors.{clause-missed, clause-found, clause-none}
use Rattle.md_det.proofs.throws.throws.Goals as goal

pub loop-pred-preserved : goal.loop-pred-preserved
loop-pred-preserved c =
    c.loop-pred.invariant
    ∙ clause-missed c.args.program.now.preds.items c.as_slice-pred-items.result.now c.loop-pred.pred-index c.pred-item.result c.as_slice-pred-items.ensures.value
    c.loop-pred-test.true c.pred-item.is (sym c.has_error.ensures ∙ c.if-has_error.false)

pub returns-then-has_error : goal.returns-then-has_error
returns-then-has_error c =
    sym (c.loop-pred.invariant
    ∙ clause-found c.args.program.now.preds.items c.as_slice-pred-items.result.now c.loop-pred.pred-index c.pred-item.result c.as_slice-pred-items.ensures.value
    c.loop-pred-test.true c.pred-item.is (sym c.has_error.ensures ∙ c.if-has_error.true))

pub returns : goal.returns
returns c =
    sym (c.loop-pred.invariant
    ∙ clause-none c.args.program.now.preds.items c.loop-pred.pred-index (omega (arith, ap length c.as_slice-pred-items.ensures.value)))
