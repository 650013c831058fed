use Rattle.std.proofs.Common.{◌≡◌, ◌∙◌, ◌<◌, ◌+◌, ℕ, ap, sym, subst, suc, length, get_or, List, arith}
use Rattle.std.proofs.lemmas.Grind.{common_steps}
use Rattle.md_hlds.specs.declared.program.Pred.{Pred}
use Rattle.md_hlds.specs.declared.program.Program.{Program}
use Rattle.md_hlds.specs.HldsGoal.{goal_of, goals_within}
use Rattle.md_hlds.specs.Hlds.{hlds_of, procedure_of, procedures_of, goals_before}
use Rattle.md_hlds.proofs.ProcedureLemmas.{procedure_at}
use Rattle.md_feedback.specs.Search.{StandsFrom}
use Rattle.md_feedback.proofs.Within.{before_next}
use Rattle.md_feedback.proofs.Standing.{none-before, body-stands, body-within}
use Rattle.md_feedback.proofs.search.candidates.Goals as goal

pub loop-owner-init : goal.loop-owner-init
loop-owner-init c = (sym (none-before (procedures_of c.args.moded.now.preds.items)), grind (arith, common_steps))

pub loop-owner-preserved : goal.loop-owner-preserved
loop-owner-preserved c =
    let ps = c.args.moded.now.preds.items in
    let i = c.loop-owner.owner in
    let p = c.pred-item.result in
    let items : c.deref-pred-items.result.now ≡ ps = c.deref-pred-items.ensures.value ∙ ap (λ (q : Program). q.preds.items) c.program.ensures.program in
    let at = procedure_at ps i p (subst (λ (qs : List Pred). i < length qs) items (omega arith)) (subst (λ (qs : List Pred). p ≡ get_or qs i p) items c.pred-item.is) in
    let more : i + 1 ≡ suc i = omega arith in
    let next = before_next (procedures_of ps) i (procedure_of p) at in (
      omega (arith, c.in_ok-number.ensures.next, c.loop-owner.invariant.0, next, ap (goals_before (procedures_of ps)) more),
      grind (arith, common_steps),
    )

pub add_goal-requires-clause-few : goal.add_goal-requires-clause-few
add_goal-requires-clause-few c =
    let ps = c.args.moded.now.preds.items in
    let i = c.loop-owner.owner in
    let p = c.pred-item.result in
    let items : c.deref-pred-items.result.now ≡ ps = c.deref-pred-items.ensures.value ∙ ap (λ (q : Program). q.preds.items) c.program.ensures.program in
    let at = procedure_at ps i p (subst (λ (qs : List Pred). i < length qs) items (omega arith)) (subst (λ (qs : List Pred). p ≡ get_or qs i p) items c.pred-item.is) in
    omega (arith, c.loop-owner.invariant.0, body-within (procedures_of ps) i (procedure_of p) at, c.program.ensures.few)

pub add_goal-requires-clause-stands : goal.add_goal-requires-clause-stands
add_goal-requires-clause-stands c =
    let s = hlds_of c.args.moded.now in
    let ps = c.args.moded.now.preds.items in
    let i = c.loop-owner.owner in
    let p = c.pred-item.result in
    let items : c.deref-pred-items.result.now ≡ ps = c.deref-pred-items.ensures.value ∙ ap (λ (q : Program). q.preds.items) c.program.ensures.program in
    let at = procedure_at ps i p (subst (λ (qs : List Pred). i < length qs) items (omega arith)) (subst (λ (qs : List Pred). p ≡ get_or qs i p) items c.pred-item.is) in
    subst (λ (n : ℕ). StandsFrom s n (goals_within (goal_of p.body))) (sym c.loop-owner.invariant.0) (body-stands s i (procedure_of p) at)

pub returns : goal.returns
returns c = grind (arith, common_steps)
