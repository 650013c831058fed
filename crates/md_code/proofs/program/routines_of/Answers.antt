use Rattle.std.proofs.Common.{◌≡◌, ◌∙◌, ◌<◌, sym, ap, subst, arith, length, List, Some, slice_get, get_or}
use Rattle.md_hlds.specs.declared.program.Pred.{Pred}
use Rattle.md_hlds.specs.declared.program.Program.{Program}
use Rattle.md_hlds.specs.Hlds.{hlds_of, procedure_of, procedures_of}
use Rattle.md_code.proofs.ProgramLemmas.{routines-next, pred-there}
use Rattle.md_code.proofs.program.routines_of.Goals as goal

pub loop-procedure-preserved : goal.loop-procedure-preserved
loop-procedure-preserved c =
    let s = hlds_of c.args.tables.now.source.checked.now in
    let ps = c.args.tables.now.source.checked.now.preds.items in
    let i = c.loop-procedure.procedure in
    let p = c.pred-item.result in
    let items : c.deref-pred-items.result.now ≡ ps = c.deref-pred-items.ensures.value ∙ ap (λ (q : Program). q.preds.items) c.program.ensures.program in
    let lt : i < length ps = subst (λ (qs : List Pred). i < length qs) items (omega arith) in
    let is : p ≡ get_or ps i p = subst (λ (qs : List Pred). p ≡ get_or qs i p) items c.pred-item.is in
    let there = subst (λ k. slice_get (procedures_of ps) k ≡ Some (procedure_of p)) (sym c.in_ok-small.ensures) (pred-there ps i p lt is) in
    routines-next s ps i c.in_ok-small.field-0 p c.loop-procedure.routines.items c.push.new.self.items c.in_ok-routine_of.field-0 _ lt is c.in_ok-small.ensures c.loop-procedure.invariant (c.in_ok-routine_of.ensures there) c.in_ok-push.ensures.items
