use Rattle.std.proofs.Common.{◌≡◌, ◌∙◌, sym, ap, arith, length}
use Rattle.md_hlds.specs.Hlds.{hlds_of}
use Rattle.md_hlds.specs.HldsGoal.{expr_of, goal_of}
use Rattle.md_code.proofs.SurveyLemmas.{surveyed-both, all-next, if-ok-map, both-Conj, both-Disj, both-If, is-tried, expr_of-If}
use Rattle.std.specs.Prelude.{is_some}
use Rattle.md_code.proofs.survey.+survey.Goals as goal

pub add_facts-returns-clause-facts : goal.add_facts-returns-clause-facts
add_facts-returns-clause-facts t c = λ stand.
    let olds = c.args.facts.now.items in
    let at : c.len-place.result ≡ length olds = omega (arith, c.len-place.ensures, c.args.facts.now.ok) in
    let number : c.in_ok-number.number ≡ length olds = omega (arith, c.in_ok-number.ensures, at) in
    surveyed-both (hlds_of c.args.source.now.checked.now) olds c.push.new.self.items c.add_inner.new.facts.items _ c.in_ok-fact.fact c.args.goal.now.line c.len-place.result c.in_ok-number.number (expr_of c.args.goal.now.kind)
    c.in_ok-push.ensures.items at number stand c.in_ok-fact.ensures.facts

pub add_facts_of_all-loop-goal-preserved : goal.add_facts_of_all-loop-goal-preserved
add_facts_of_all-loop-goal-preserved t c =
    record {
      keeps = omega (arith, c.in_ok-add_facts.ensures.keeps);
      facts = λ stand. all-next (hlds_of c.args.source.now.checked.now) c.args.facts.now.items c.loop-goal.facts.items c.add_facts.new.facts.items c.args.goals.now c.loop-goal.goal-index c.goal-item.result c.loop-goal.all c.in_ok-all.all c.in_ok-add_facts.field-0 (omega arith) c.goal-item.is
          (c.loop-goal.invariant.facts stand) c.in_ok-add_facts.ensures.facts c.in_ok-all.ensures;
    }

pub add_inner-returns-in_ok-parts-in-Conj-clause-facts : goal.add_inner-returns-in_ok-parts-in-Conj-clause-facts
add_inner-returns-in_ok-parts-in-Conj-clause-facts t c =
    if-ok-map c.of_conjunction.result
    (λ whole is. both-Conj (hlds_of c.args.source.now.checked.now) c.args.number c.args.facts.now.items c.add_facts_of_all.new.facts.items c.args.kind.now c.in-Conj.goals c.as_slice.result.now c.in_ok-parts-in-Conj.parts whole
    c.in-Conj.is c.as_slice.ensures.value c.in_ok-parts-in-Conj.ensures.facts is)
    c.of_conjunction.ensures

pub add_inner-returns-in_ok-arms-in-Disj-clause-facts : goal.add_inner-returns-in_ok-arms-in-Disj-clause-facts
add_inner-returns-in_ok-arms-in-Disj-clause-facts t c =
    both-Disj (hlds_of c.args.source.now.checked.now) c.args.number c.args.facts.now.items c.add_facts_of_all-in-Disj.new.facts.items c.args.kind.now c.in-Disj.arms c.as_slice-in-Disj.result.now c.in_ok-arms-in-Disj.arms c.of_disjunction.result c.is_none.result
    c.in-Disj.is c.as_slice-in-Disj.ensures.value c.in_ok-arms-in-Disj.ensures.facts
    (is-tried c.is_none.result _ (ap is_some (sym c.switch.ensures) ∙ c.is_none.ensures)) c.of_disjunction.ensures

pub add_inner-returns-in_ok-otherwise-in-If-clause-facts : goal.add_inner-returns-in_ok-otherwise-in-If-clause-facts
add_inner-returns-in_ok-otherwise-in-If-clause-facts t c =
    if-ok-map c.of_test.result
    (λ whole is. both-If (hlds_of c.args.source.now.checked.now) c.args.number c.args.facts.now.items c.add_facts.new.facts.items c.add_facts-in-If.new.facts.items c.add_facts-in-If-2.new.facts.items
    (expr_of c.args.kind.now) (goal_of c.deref.result.now) (goal_of c.deref-in-If.result.now) (goal_of c.deref-in-If-2.result.now) c.in_ok-condition-in-If.condition c.in_ok-then-in-If.then c.in_ok-otherwise-in-If.otherwise whole
    (expr_of-If c.args.kind.now c.in-If.condition c.in-If.then c.in-If.otherwise c.deref.result.now c.deref-in-If.result.now c.deref-in-If-2.result.now c.in-If.is c.deref.ensures c.deref-in-If.ensures c.deref-in-If-2.ensures)
    c.in_ok-condition-in-If.ensures.facts c.in_ok-then-in-If.ensures.facts c.in_ok-otherwise-in-If.ensures.facts is)
    c.of_test.ensures
