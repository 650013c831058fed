use Rattle.std.proofs.Common.{◌≡◌, ◌∙◌, ◌<◌, ◌≤◌, sym, ap, subst, arith, length, List, [], get_or, refl}
use Rattle.md_hlds.specs.declared.program.Pred.{Pred}
use Rattle.md_hlds.specs.declared.program.Program.{Program}
use Rattle.md_hlds.specs.Hlds.{hlds_of, clause_goals}
use Rattle.md_code.specs.declared.fact.Fact.{Fact}
use Rattle.md_code.specs.declared.callee.Callee.{Callee}
use Rattle.md_code.specs.Facts.{facts_from, callees_from}
use Rattle.md_code.proofs.LookupLemmas.{Ahead, clause-next, ahead-end, stand-all}
use Rattle.md_code.proofs.surveyed.survey.Goals as goal

pub loop-pred-init : goal.loop-pred-init
loop-pred-init c =
    let s = hlds_of c.args.source.now.checked.now in
    subst (λ (fs : List Fact). Ahead s (facts_from s 0 (clause_goals s.procedures)) (callees_from 0 s.procedures) c.args.source.now.checked.now.preds.items fs c.new-callees.result.items) (sym c.new-facts.ensures.items)
    (subst (λ (cs : List Callee). Ahead s (facts_from s 0 (clause_goals s.procedures)) (callees_from 0 s.procedures) c.args.source.now.checked.now.preds.items [] cs) (sym c.new-callees.ensures.items)
    (record { goes = refl; calls = refl; stand = stand-all s }))

pub loop-pred-preserved : goal.loop-pred-preserved
loop-pred-preserved c =
    let s = hlds_of c.args.source.now.checked.now in
    let ps = c.args.source.now.checked.now.preds.items in
    let i = c.loop-pred.pred-index in
    let p = c.pred-item.result in
    let items : c.as_slice-pred-items.result.now ≡ ps = (c.as_slice-pred-items.ensures.value ∙ ap (λ (q : Program). q.preds.items) c.program.ensures.program) in
    let lt : i < length ps = subst (λ (qs : List Pred). i < length qs) items (omega arith) in
    let is : p ≡ get_or ps i p = subst (λ (qs : List Pred). p ≡ get_or qs i p) items c.pred-item.is in
    clause-next s _ _ ps i p c.loop-pred.facts.items c.add_facts.new.facts.items c.loop-pred.callees.items c.push.new.self.items c.in_ok-fact.fact c.in_ok-callee_of.field-0 c.in_ok-body.body
    lt is c.loop-pred.invariant c.in_ok-fact.ensures.facts (omega (arith, c.in_ok-body.ensures, c.len.ensures, c.loop-pred.facts.ok)) c.in_ok-callee_of.ensures c.in_ok-push.ensures.items

pub returns : goal.returns
returns c =
    let ps = c.args.source.now.checked.now.preds.items in
    let end' : length ps ≤ c.loop-pred.pred-index
    = subst (λ (qs : List Pred). length qs ≤ c.loop-pred.pred-index) (c.as_slice-pred-items.ensures.value ∙ ap (λ (q : Program). q.preds.items) c.program.ensures.program) (omega (arith, c.loop-pred-test.false)) in
    let both = ahead-end (hlds_of c.args.source.now.checked.now) _ _ ps c.loop-pred.pred-index c.loop-pred.facts.items c.loop-pred.callees.items end' c.loop-pred.invariant in
    record { facts = both.0; callees = both.1 }
