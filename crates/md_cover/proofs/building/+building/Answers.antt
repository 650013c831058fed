use Rattle.std.proofs.Common.{rules, ◌≡◌, ◌∙◌, ◌+◌, ◌++◌, sym, ap, subst, arith, ℕ, suc, List, map, drop, IfOk}
use Rattle.std.proofs.lemmas.Grind.{common_steps}
use Rattle.md_hlds.specs.Hlds.{hlds_of}
use Rattle.md_hlds.specs.declared.goal.GoalKind.{the_lemmas}
use Rattle.md_hlds.specs.HldsGoal.{GoalExpr, goal_of, goals_of, gathered, goals_size, parts_size}
use Rattle.md_det.specs.Findings.{program_findings}
use Rattle.law_turns.specs.Equations as spec
use Rattle.md_cover.specs.declared.equation.Quantity.{Quantity}
use Rattle.md_cover.specs.Told.{quantity_of, quantities_of, equations_of, view_counts}
use Rattle.md_cover.proofs.BuildingLemmas.{conj-is, disj-is, if-is, if-built, entered, arms-begin, parts-step, conj-step, size-step, numbers-step, arm-step}
use Rattle.md_cover.proofs.ToldLemmas.{quantities-append}
use Rattle.md_cover.proofs.building.+building.Goals as goal

pub add_kind-returns-in-Conj-clause-next : goal.add_kind-returns-in-Conj-clause-next
add_kind-returns-in-Conj-clause-next t c =
    let e = conj-is c.args.kind.now c.in-Conj.goals c.as_slice.result.now c.in-Conj.is c.as_slice.ensures.value in
    subst (λ (k : ℕ). IfOk c.add_conjunction.result (λ next. next ≡ k)) (let size = ap parts_size e in omega (arith, size)) c.add_conjunction.ensures.next

pub add_kind-returns-in-Conj-clause-equations : goal.add_kind-returns-in-Conj-clause-equations
add_kind-returns-in-Conj-clause-equations t c = λ v is.
    let e = conj-is c.args.kind.now c.in-Conj.goals c.as_slice.result.now c.in-Conj.is c.as_slice.ensures.value in
    subst (λ (x : GoalExpr). IfOk c.add_conjunction.result (λ next. equations_of c.add_conjunction.new.equations.items ≡ equations_of c.args.equations.now.items ++ spec.expr_equations (program_findings (hlds_of c.args.checked.now)) (view_counts v) c.args.number x)) (sym e)
    (c.add_conjunction.ensures.equations v is)

pub add_kind-returns-in-Disj-clause-next : goal.add_kind-returns-in-Disj-clause-next
add_kind-returns-in-Disj-clause-next t c =
    let e = disj-is c.args.kind.now c.in-Disj.arms c.as_slice-in-Disj.result.now c.in-Disj.is c.as_slice-in-Disj.ensures.value in
    subst (λ (k : ℕ). IfOk c.add_disjunction.result (λ next. next ≡ k)) (let size = ap parts_size e in omega (arith, size)) c.add_disjunction.ensures.next

pub add_kind-returns-in-Disj-clause-equations : goal.add_kind-returns-in-Disj-clause-equations
add_kind-returns-in-Disj-clause-equations t c = λ v is.
    let e = disj-is c.args.kind.now c.in-Disj.arms c.as_slice-in-Disj.result.now c.in-Disj.is c.as_slice-in-Disj.ensures.value in
    subst (λ (x : GoalExpr). IfOk c.add_disjunction.result (λ next. equations_of c.add_disjunction.new.equations.items ≡ equations_of c.args.equations.now.items ++ spec.expr_equations (program_findings (hlds_of c.args.checked.now)) (view_counts v) c.args.number x)) (sym e)
    (c.add_disjunction.ensures.equations v is)

pub add_kind-returns-in_ok-add_both-in-If-2-clause-equations : goal.add_kind-returns-in_ok-add_both-in-If-2-clause-equations
add_kind-returns-in_ok-add_both-in-If-2-clause-equations t c = λ v is.
    let e = if-is c.args.kind.now c.in-If.condition c.in-If.then c.in-If.otherwise c.deref.result.now c.deref-in-If.result.now c.deref-in-If-2.result.now c.in-If.is c.deref.ensures c.deref-in-If.ensures c.deref-in-If-2.ensures in
    subst (λ (x : GoalExpr). equations_of c.add_both-in-If.new.equations.items ≡ equations_of c.args.equations.now.items ++ spec.expr_equations (program_findings (hlds_of c.args.checked.now)) (view_counts v) c.args.number x) (sym e)
    (if-built (program_findings (hlds_of c.args.checked.now)) (view_counts v) c.args.number (c.args.number + 1) c.in_ok-held-in-If.held c.in_ok-lapsed-in-If.lapsed
    (goal_of c.deref.result.now) (goal_of c.deref-in-If.result.now) (goal_of c.deref-in-If-2.result.now) _ _ _ _ _ _
    (omega arith) c.in_ok-held-in-If.ensures.next c.in_ok-lapsed-in-If.ensures.next
    (c.in_ok-held-in-If.ensures.equations v is) (c.in_ok-lapsed-in-If.ensures.equations v is)
    c.in_ok-add_both-in-If.ensures (c.in_ok-next-in-If.ensures.equations v is) c.in_ok-add_both-in-If-2.ensures)

pub add_entered-returns-clause-equations : goal.add_entered-returns-clause-equations
add_entered-returns-clause-equations t c = λ v is. entered c.add_goal.result (equations_of c.args.equations.now.items) _ _ _ _ c.in_ok-add_equal.ensures (c.add_goal.ensures.equations v is)

pub add_conjunction-loop-goal-preserved : goal.add_conjunction-loop-goal-preserved
add_conjunction-loop-goal-preserved t c =
    let i = c.loop-goal.goal-index in
    let gs = c.args.goals.now in
    let ps = gathered (goals_of (drop i gs)) in
    let rest = gathered (goals_of (drop (i + 1) gs)) in
    let p = goal_of c.goal-item.result in
    let step = parts-step gs i c.goal-item.result (omega arith) c.goal-item.is in
    let at = c.in_ok-next.ensures.next in
    let inv = c.loop-goal.invariant in
    let m = c.loop-goal.next in
    let n = c.in_ok-next.next in (
      size-step ps rest p m n step at ∙ inv.0,
      λ v is. conj-step (program_findings (hlds_of c.args.checked.now)) (view_counts v) c.args.number m n (quantity_of c.loop-goal.before) ps rest p (equations_of c.loop-goal.equations.items) (equations_of c.add_entered.new.equations.items) step at (c.in_ok-next.ensures.equations v is) ∙ inv.1 v is,
    )

pub add_disjunction-loop-arm-init : goal.add_disjunction-loop-arm-init
add_disjunction-loop-arm-init t c =
    let ps = gathered (goals_of c.args.arms.now) in
    let at : c.args.number + 1 ≡ suc c.args.number = omega arith in (
      ap (λ (k : ℕ). k + goals_size ps) at,
      (
        ap (λ (qs : List Quantity). quantities_of qs ++ map (λ x. spec.Entries x) (spec.numbers_from (c.args.number + 1) ps)) c.new-entries.ensures.items ∙ ap (λ (k : ℕ). map (λ x. spec.Entries x) (spec.numbers_from k ps)) at,
        (
          ap (λ (qs : List Quantity). quantities_of qs ++ map (λ x. spec.Exits x) (spec.numbers_from (c.args.number + 1) ps)) c.new-exits.ensures.items ∙ ap (λ (k : ℕ). map (λ x. spec.Exits x) (spec.numbers_from k ps)) at,
          λ v is. arms-begin (program_findings (hlds_of c.args.checked.now)) (view_counts v) c.args.number (c.args.number + 1) ps c.switch-switch.result _ (equations_of c.args.equations.now.items) (equations_of c.enter_first.new.equations.items) at c.switch-switch.ensures c.in_ok-enter_first.ensures,
        ),
      ),
    )

pub add_disjunction-loop-arm-preserved : goal.add_disjunction-loop-arm-preserved
add_disjunction-loop-arm-preserved t c =
    let i = c.loop-arm.arm-index in
    let gs = c.args.arms.now in
    let ps = gathered (goals_of (drop i gs)) in
    let rest = gathered (goals_of (drop (i + 1) gs)) in
    let p = goal_of c.arm-item.result in
    let step = parts-step gs i c.arm-item.result (omega arith) c.arm-item.is in
    let at = c.in_ok-next.ensures.next in
    let inv = c.loop-arm.invariant in
    let m = c.loop-arm.next in
    let n = c.in_ok-next.next in (
      size-step ps rest p m n step at ∙ inv.0,
      (
        numbers-step (λ x. spec.Entries x) m n ps rest p (quantities_of c.loop-arm.entries.items) (quantities_of c.push.new.self.items) step at (ap quantities_of c.in_ok-push.ensures.items ∙ quantities-append c.loop-arm.entries.items _) ∙ inv.1.0,
        (
          numbers-step (λ x. spec.Exits x) m n ps rest p (quantities_of c.loop-arm.exits.items) (quantities_of c.push-in-loop-arm.new.self.items) step at (ap quantities_of c.in_ok-push-2.ensures.items ∙ quantities-append c.loop-arm.exits.items _) ∙ inv.1.1.0,
          λ v is. arm-step (program_findings (hlds_of c.args.checked.now)) (view_counts v) m n ps rest p (equations_of c.loop-arm.equations.items) (equations_of c.add_goal.new.equations.items) step at (c.in_ok-next.ensures.equations v is) ∙ inv.1.1.1 v is,
        ),
      ),
    )

pub add_kind-returns-in-Some-clause-equations : goal.add_kind-returns-in-Some-clause-equations
add_kind-returns-in-Some-clause-equations t c = grind (arith, common_steps)

pub add_kind-returns-in-Some-clause-next : goal.add_kind-returns-in-Some-clause-next
add_kind-returns-in-Some-clause-next t c = grind (arith, common_steps)

pub add_kind-returns-in-Call-clause-equations : goal.add_kind-returns-in-Call-clause-equations
add_kind-returns-in-Call-clause-equations t c = grind (arith, common_steps)

pub add_kind-returns-in-Call-clause-next : goal.add_kind-returns-in-Call-clause-next
add_kind-returns-in-Call-clause-next t c = grind (arith, common_steps)

pub add_goal-returns-clause-equations : goal.add_goal-returns-clause-equations
add_goal-returns-clause-equations t c = grind (arith, common_steps)

pub add_goal-returns-clause-next : goal.add_goal-returns-clause-next
add_goal-returns-clause-next t c = grind (arith, common_steps)

pub add_kind-returns-in_ok-add_count-in-Fail-clause-equations : goal.add_kind-returns-in_ok-add_count-in-Fail-clause-equations
add_kind-returns-in_ok-add_count-in-Fail-clause-equations t c = grind (arith, common_steps)

pub add_kind-returns-in_ok-add_count-in-Fail-clause-next : goal.add_kind-returns-in_ok-add_count-in-Fail-clause-next
add_kind-returns-in_ok-add_count-in-Fail-clause-next t c = grind (arith, common_steps)

pub add_kind-returns-in-True-clause-equations : goal.add_kind-returns-in-True-clause-equations
add_kind-returns-in-True-clause-equations t c = grind (arith, common_steps)

pub add_kind-returns-in-True-clause-next : goal.add_kind-returns-in-True-clause-next
add_kind-returns-in-True-clause-next t c = grind (arith, common_steps)

pub add_not-returns-clause-equations : goal.add_not-returns-clause-equations
add_not-returns-clause-equations t c = grind (arith, common_steps)

pub add_not-returns-clause-next : goal.add_not-returns-clause-next
add_not-returns-clause-next t c = grind (arith, common_steps)

pub add_disjunction-returns-clause-equations : goal.add_disjunction-returns-clause-equations
add_disjunction-returns-clause-equations t c = grind (arith, common_steps)

pub add_disjunction-returns-clause-next : goal.add_disjunction-returns-clause-next
add_disjunction-returns-clause-next t c = grind (arith, common_steps)

pub add_conjunction-returns-clause-equations : goal.add_conjunction-returns-clause-equations
add_conjunction-returns-clause-equations t c = grind (arith, common_steps)

pub add_conjunction-returns-clause-next : goal.add_conjunction-returns-clause-next
add_conjunction-returns-clause-next t c = grind (arith, common_steps)

pub add_kind-returns-in_ok-add_count-in-Error-2-clause-equations : goal.add_kind-returns-in_ok-add_count-in-Error-2-clause-equations
add_kind-returns-in_ok-add_count-in-Error-2-clause-equations t c = grind (arith, common_steps)

pub add_kind-returns-in_ok-add_count-in-Error-2-clause-next : goal.add_kind-returns-in_ok-add_count-in-Error-2-clause-next
add_kind-returns-in_ok-add_count-in-Error-2-clause-next t c = grind (arith, common_steps)

pub add_kind-returns-in-Not-clause-equations : goal.add_kind-returns-in-Not-clause-equations
add_kind-returns-in-Not-clause-equations t c = grind (arith, common_steps)

pub add_kind-returns-in-Not-clause-next : goal.add_kind-returns-in-Not-clause-next
add_kind-returns-in-Not-clause-next t c = grind (arith, common_steps)

pub add_some-returns-clause-equations : goal.add_some-returns-clause-equations
add_some-returns-clause-equations t c = grind (arith, common_steps)

pub add_some-returns-clause-next : goal.add_some-returns-clause-next
add_some-returns-clause-next t c = grind (arith, common_steps)

pub add_entered-returns-clause-next : goal.add_entered-returns-clause-next
add_entered-returns-clause-next t c = grind (arith, common_steps)

pub add_kind-returns-in-HoCall-clause-equations : goal.add_kind-returns-in-HoCall-clause-equations
add_kind-returns-in-HoCall-clause-equations t c = grind (arith, common_steps)

pub add_kind-returns-in-HoCall-clause-next : goal.add_kind-returns-in-HoCall-clause-next
add_kind-returns-in-HoCall-clause-next t c = grind (arith, common_steps)

pub add_kind-returns-in_ok-add_both-in-If-2-clause-next : goal.add_kind-returns-in_ok-add_both-in-If-2-clause-next
add_kind-returns-in_ok-add_both-in-If-2-clause-next t c = grind (arith, common_steps)

pub add_kind-add_conjunction-requires : goal.add_kind-add_conjunction-requires
add_kind-add_conjunction-requires t c =
    let size = ap parts_size (conj-is c.args.kind.now c.in-Conj.goals c.as_slice.result.now c.in-Conj.is c.as_slice.ensures.value) in
    (search (rules, the_lemmas), omega (arith, size, c.requires.few))

pub add_kind-add_disjunction-requires : goal.add_kind-add_disjunction-requires
add_kind-add_disjunction-requires t c =
    let size = ap parts_size (disj-is c.args.kind.now c.in-Disj.arms c.as_slice-in-Disj.result.now c.in-Disj.is c.as_slice-in-Disj.ensures.value) in
    (search (rules, the_lemmas), omega (arith, size, c.requires.few))
