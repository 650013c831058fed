use Rattle.std.proofs.Common.{◌≡◌, ◌∙◌, ◌<◌, ◌≤◌, refl, sym, ap, subst, arith, length, List, get_or}
use Rattle.md_hlds.specs.declared.program.Pred.{Pred}
use Rattle.md_hlds.specs.declared.program.Program.{Program}
use Rattle.md_hlds.specs.Hlds.{hlds_of, procedure_of, body_number}
use Rattle.md_code.specs.Blocks.{body_place}
use Rattle.md_code.specs.Told.{place_told}
use Rattle.md_code.proofs.ProgramLemmas.{bodies-begin, bodies-next}
use Rattle.md_code.proofs.program.lay_program.Goals as goal

pub loop-procedure-init : goal.loop-procedure-init
loop-procedure-init c = bodies-begin (hlds_of c.args.tables.now.source.checked.now) c.in_ok-output.output c.args.tables.now.source.checked.now.preds.items refl c.in_ok-output.ensures

pub loop-procedure-preserved : goal.loop-procedure-preserved
loop-procedure-preserved c =
    let s = hlds_of c.args.tables.now.source.checked.now in
    let ps = c.args.tables.now.source.checked.now.preds.items in
    let i = c.loop-procedure.procedure in
    let p = c.pred-item.result in
    let items : c.deref-pred-items.result.now ≡ ps = c.deref-pred-items.ensures.value ∙ ap (λ (q : Program). q.preds.items) c.program.ensures.program in
    let lt : i < length ps = subst (λ (qs : List Pred). i < length qs) items (omega arith) in
    let is : p ≡ get_or ps i p = subst (λ (qs : List Pred). p ≡ get_or qs i p) items c.pred-item.is in
    let more : c.loop-procedure.reach ≤ c.max-reach.result = omega (arith, c.max-reach.ensures) in
    let fits : c.in_ok-at.at.size ≤ c.max-reach.result = omega (arith, c.max-reach.ensures) in
    bodies-next s ps i c.in_ok-body.body c.loop-procedure.reach c.max-reach.result p c.loop-procedure.output c.lay.new.output (place_told c.in_ok-at.at) refl lt is
    (omega (arith, c.in_ok-body.ensures, c.len.ensures, c.loop-procedure.output.details.ok)) c.loop-procedure.invariant
    (λ body there. c.in_ok-at.ensures (body ∙ ap (body_number s) (sym c.in_ok-small.ensures)) there ∙ ap (λ k. body_place s k (procedure_of p)) c.in_ok-small.ensures)
    c.in_ok-lay.ensures (more, fits)
