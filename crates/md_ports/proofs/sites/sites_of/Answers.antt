use Rattle.std.proofs.Common.{◌≡◌, ◌∙◌, ◌<◌, ap, subst, get_or, length, List, refl, arith}
use Rattle.std.proofs.lemmas.Grind.{common_steps}
use Rattle.md_hlds.specs.declared.program.Pred.{Pred}
use Rattle.md_hlds.specs.declared.program.Program.{Program}
use Rattle.md_hlds.specs.Hlds.{hlds_of, procedures_of}
use Rattle.md_det.proofs.Counted.{clauses-step}
use Rattle.md_ports.proofs.Read.{start}
use Rattle.md_ports.proofs.sites.sites_of.Goals as goal

pub loop-place-init : goal.loop-place-init
loop-place-init c =
    (start (hlds_of c.args.moded.now) (procedures_of c.args.moded.now.preds.items) c.new-sites.result.items refl c.new-sites.ensures.items, omega (arith, c.program.ensures.few))

pub loop-place-preserved : goal.loop-place-preserved
loop-place-preserved c =
    let ps = c.args.moded.now.preds.items in
    let i = c.loop-place.place in
    let p = c.pred-item.result in
    let items : c.deref-pred-items.result.now ≡ ps = c.deref-pred-items.ensures.value ∙ ap (λ (q : Program). q.preds.items) c.program.ensures.program in
    let left = clauses-step ps i p (subst (λ (qs : List Pred). i < length qs) items (omega arith)) (subst (λ (qs : List Pred). p ≡ get_or qs i p) items c.pred-item.is) in
    (grind (arith, common_steps), omega (arith, left, c.loop-place.invariant.1, c.in_ok-number.ensures.next))

pub add_sites-requires : goal.add_sites-requires
add_sites-requires c =
    let ps = c.args.moded.now.preds.items in
    let i = c.loop-place.place in
    let p = c.pred-item.result in
    let items : c.deref-pred-items.result.now ≡ ps = c.deref-pred-items.ensures.value ∙ ap (λ (q : Program). q.preds.items) c.program.ensures.program in
    let left = clauses-step ps i p (subst (λ (qs : List Pred). i < length qs) items (omega arith)) (subst (λ (qs : List Pred). p ≡ get_or qs i p) items c.pred-item.is) in
    omega (arith, left, c.loop-place.invariant.1)

pub returns : goal.returns
returns c = grind (arith, common_steps)
