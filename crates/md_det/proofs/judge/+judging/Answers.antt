use Rattle.std.proofs.Common.{◌≡◌, ◌∙◌, ◌+◌, suc, refl, sym, subst, rules, arith, ap, add-one, ◌||◌, length, drop, ◌<◌}
use Rattle.std.proofs.lemmas.Grind.{common_steps}
use Rattle.md_hlds.specs.HldsGoal.{gathered, goal_of, goals_of, expr_of}
use Rattle.md_modes.specs.Inside.{IsChoice}
use Rattle.md_det.specs.Judge.{or_else, condition_fault, judge_expr}
use Rattle.md_det.specs.Told.{reading_in, found_told, found_onto}
use Rattle.md_det.proofs.Judging.{each_next, arms_next, each_end, arms_end, still_within, own_set, or_else-assoc, conj_found, disj_found, choice_found, at_any, not_kind, some_kind}
use Rattle.md_det.proofs.Counted.{length_judged, sizes-step}
use Rattle.md_hlds.proofs.goal.Goal.TheLaws.{the_size}
use denote.Param.Weighed.{at_most}
use Rattle.md_det.proofs.judge.+judging.Goals as goal
use Rattle.md_det.proofs.judge.+judging.Goals.{judge_each-then-again, judge_each-else-again}

pub judge-returns-clause-judged : goal.judge-returns-clause-judged
judge-returns-clause-judged t c =
    let olds = c.args.findings.now.items in
    let n : c.len-place.result ≡ length olds = omega (arith, c.len-place.ensures, c.args.findings.now.ok) in
    let told : found_told c.in_ok-found.found c.judge_kind.new.findings.items
    ≡ found_onto c.push.new.self.items (judge_expr (reading_in c.args.context.now) (length olds) c.args.at c.args.again c.args.goal.now.line (expr_of c.args.goal.now.kind))
    = rw n at c.in_ok-found.ensures in
    rw n (own_set olds c.push.new.self.items c.judge_kind.new.findings.items _ c.in_ok-found.found.switch c.in_ok-found.found.pair c.in_ok-found.found.fault _
    c.in_ok-push.ensures.items told)

pub judge-returns-clause-counted : goal.judge-returns-clause-counted
judge-returns-clause-counted t c =
    length_judged (reading_in c.args.context.now) c.args.at c.args.again (goal_of c.args.goal.now) c.in_ok-found.found.pair c.in_ok-found.found.fault c.args.findings.now.items _
    (judge-returns-clause-judged t c)

pub judge_kind-returns-in_ok-judged-in-Conj : goal.judge_kind-returns-in_ok-judged-in-Conj
judge_kind-returns-in_ok-judged-in-Conj t c =
    rw c.plain.ensures
    (conj_found (reading_in c.args.context.now) c.args.number c.args.at c.args.again c.args.goal.now.line c.args.goal.now.kind c.in-Conj.goals c.parts.result.now
    c.in_ok-judged-in-Conj.judged.pair c.in_ok-judged-in-Conj.judged.fault c.args.findings.now.items c.judge_each.new.findings.items
    c.in-Conj.is c.parts.ensures.value c.requires.numbered c.in_ok-judged-in-Conj.ensures)

pub judge_kind-returns-in-Disj : goal.judge_kind-returns-in-Disj
judge_kind-returns-in-Disj t c =
    disj_found (reading_in c.args.context.now) c.args.number c.args.at c.args.again c.args.goal.now.line c.args.goal.now.kind c.in-Disj.arms c.parts-in-Disj.result.now
    c.judge_disjunction.result c.args.findings.now.items c.judge_disjunction.new.findings.items
    c.in-Disj.is c.parts-in-Disj.ensures.value c.judge_disjunction.ensures

pub judge_kind-judge_choice-requires : goal.judge_kind-judge_choice-requires
judge_kind-judge_choice-requires t c = (search rules, (subst (λ k. IsChoice (expr_of k)) (sym c.in-If.is) tt, (c.requires.numbered, c.requires.few)))

pub judge_kind-returns-in-If : goal.judge_kind-returns-in-If
judge_kind-returns-in-If t c =
    at_any c.judge_choice.result
    (λ f at. found_told f c.judge_choice.new.findings.items
    ≡ found_onto c.args.findings.now.items (judge_expr (reading_in c.args.context.now) c.args.number at c.args.again c.args.goal.now.line (expr_of c.args.goal.now.kind)))
    c.args.at c.judge_choice.ensures

pub judge_kind-returns-in-Not : goal.judge_kind-returns-in-Not
judge_kind-returns-in-Not t c =
    not_kind (reading_in c.args.context.now) c.args.number c.args.at c.args.again c.args.goal.now.line c.args.goal.now.kind c.in-Not.inner c.deref.result.now
    c.judge_negation.result c.args.findings.now.items c.judge_negation.new.findings.items
    c.in-Not.is c.deref.ensures c.judge_negation.ensures

pub judge_kind-returns-in-Some : goal.judge_kind-returns-in-Some
judge_kind-returns-in-Some t c =
    some_kind (reading_in c.args.context.now) c.args.number c.args.at c.args.again c.args.goal.now.line c.args.goal.now.kind _ c.in-Some.inner c.deref-in-Some.result.now
    c.judge_quantified.result c.args.findings.now.items c.judge_quantified.new.findings.items
    c.in-Some.is c.deref-in-Some.ensures c.judge_quantified.ensures

pub judge_choice-returns : goal.judge_choice-returns
judge_choice-returns t c at =
    let r = reading_in c.args.context.now in
    let own = condition_fault r c.args.goal.now.line (suc c.args.number) c.in_ok-tested-in-If.tested.pair in
    let fault : c.tested_fault-fault.result ≡ or_else own c.in_ok-tested-in-If.tested.fault = c.tested_fault-fault.ensures ∙ rw add-one refl in
    rw (c.chosen.ensures, fault, ← or_else-assoc own c.in_ok-tested-in-If.tested.fault (or_else c.in_ok-first-in-If.first.fault c.in_ok-second-in-If.second.fault))
    (choice_found (reading_in c.args.context.now) c.args.number at c.args.again c.args.goal.now.line c.args.goal.now.kind
    c.in-If.condition c.in-If.then c.in-If.otherwise c.deref.result.now c.deref-in-If.result.now c.deref-in-If-2.result.now
    c.args.findings.now.items c.judge.new.findings.items c.judge-in-If.new.findings.items c.judge-in-If-2.new.findings.items
    c.in_ok-tested-in-If.tested.pair c.in_ok-first-in-If.first.pair c.in_ok-second-in-If.second.pair
    c.in_ok-tested-in-If.tested.fault c.in_ok-first-in-If.first.fault c.in_ok-second-in-If.second.fault own
    c.in-If.is c.deref.ensures c.deref-in-If.ensures c.deref-in-If-2.ensures c.requires.numbered
    c.in_ok-tested-in-If.ensures.judged refl c.in_ok-first-in-If.ensures.judged c.in_ok-second-in-If.ensures.judged)

pub judge_negation-returns : goal.judge_negation-returns
judge_negation-returns t c = grind (arith, common_steps)

pub judge_quantified-returns : goal.judge_quantified-returns
judge_quantified-returns t c = grind (arith, common_steps)

pub judge_each-loop-goal-preserved : goal.judge_each-loop-goal-preserved
judge_each-loop-goal-preserved t c =
    let r = reading_in c.args.context.now in
    let news = c.judge.new.findings.items in
    let rest = gathered (goals_of (drop (c.loop-goal.goal-index + 1) c.args.goals.now)) in
    let again : c.if-again.again ≡ (c.loop-goal.again || c.is_many-comes_back.result)
    = elim c.if-again.branch [ judge_each-then-again w ↦ rw (w.again-is, w.if-again.true) refl | judge_each-else-again w ↦ rw (w.again-is, w.if-again.false) refl ] in
    let i = c.loop-goal.goal-index in
    let olds = c.loop-goal.findings.items in
    let lt : i < length c.args.goals.now = omega arith in record {
      told = c.loop-goal.invariant.told
          ∙ (each_next r c.loop-goal.at c.loop-goal.again c.args.goals.now c.loop-goal.goal-index c.goal-item.result c.loop-goal.all.pair c.loop-goal.all.fault
          c.loop-goal.findings.items c.in_ok-judged.judged.pair c.in_ok-judged.judged.fault news (omega arith) c.goal-item.is c.in_ok-judged.ensures.judged
          ∙ rw (again, c.is_many-comes_back.ensures, c.then.ensures, c.or.ensures) refl);
      few = omega (
        arith,
        c.loop-goal.invariant.few,
        sizes-step c.args.goals.now i c.goal-item.result lt c.goal-item.is,
        c.in_ok-judged.ensures.counted,
      );
    }

pub judge_arms-loop-arm-preserved : goal.judge_arms-loop-arm-preserved
judge_arms-loop-arm-preserved t c =
    let r = reading_in c.args.context.now in
    let i = c.loop-arm.arm-index in
    let lt : i < length c.args.arms.now = omega arith in record {
      told = c.loop-arm.invariant.told
          ∙ (arms_next (reading_in c.args.context.now) c.args.at c.args.again c.args.arms.now c.loop-arm.arm-index c.arm-item.result c.loop-arm.all.pair c.loop-arm.all.fault
          c.loop-arm.findings.items c.in_ok-judged.judged.pair c.in_ok-judged.judged.fault c.judge.new.findings.items (omega arith) c.arm-item.is c.in_ok-judged.ensures.judged
          ∙ rw (c.beside.ensures, c.or.ensures) refl);
      few = omega (
        arith,
        c.loop-arm.invariant.few,
        sizes-step c.args.arms.now i c.arm-item.result lt c.arm-item.is,
        c.in_ok-judged.ensures.counted,
      );
    }

pub judge_each-returns : goal.judge_each-returns
judge_each-returns t c =
    each_end (reading_in c.args.context.now) (length c.loop-goal.findings.items) c.loop-goal.at c.loop-goal.again c.args.goals.now c.loop-goal.goal-index
    c.loop-goal.all.pair c.loop-goal.all.fault c.loop-goal.findings.items _ (omega arith) c.loop-goal.invariant.told

pub judge_arms-returns : goal.judge_arms-returns
judge_arms-returns t c =
    arms_end (reading_in c.args.context.now) (length c.loop-arm.findings.items) c.args.at c.args.again c.args.arms.now c.loop-arm.arm-index
    c.loop-arm.all.pair c.loop-arm.all.fault c.loop-arm.findings.items _ (omega arith) c.loop-arm.invariant.told

pub judge-index_mut-requires : goal.judge-index_mut-requires
judge-index_mut-requires t c =
    let lt = still_within c.args.findings.now.items c.push.new.self.items c.judge_kind.new.findings.items _ c.in_ok-found.found.switch c.in_ok-found.found.pair c.in_ok-found.found.fault
    _ c.len-place.result c.in_ok-push.ensures.items c.in_ok-found.ensures (omega (arith, c.len-place.ensures, c.args.findings.now.ok)) in
    omega (arith, lt, c.judge_kind.new.findings.ok)

pub judge_each-judge-requires : goal.judge_each-judge-requires
judge_each-judge-requires t c =
    let gs = c.args.goals.now in
    let i = c.loop-goal.goal-index in
    let g = c.goal-item.result in
    let lt : i < length gs = omega arith in (
      omega (arith, at_most the_size gs i g lt, ap the_size c.goal-item.is),
      omega (arith, c.loop-goal.invariant.few, sizes-step gs i g lt c.goal-item.is),
    )

pub judge_arms-judge-requires : goal.judge_arms-judge-requires
judge_arms-judge-requires t c =
    let gs = c.args.arms.now in
    let i = c.loop-arm.arm-index in
    let g = c.arm-item.result in
    let lt : i < length gs = omega arith in (
      omega (arith, at_most the_size gs i g lt, ap the_size c.arm-item.is),
      omega (arith, c.loop-arm.invariant.few, sizes-step gs i g lt c.arm-item.is),
    )
