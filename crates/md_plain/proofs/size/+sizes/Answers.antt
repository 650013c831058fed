use Rattle.std.proofs.Common.{◌≡◌, ap, subst, ℕ, IfOk, arith}
use Rattle.std.proofs.lemmas.Grind.{common_steps}
use Rattle.md_hlds.specs.HldsGoal.{parts_size}
use Rattle.md_plain.proofs.GoalLemmas.{conj_of, disj_of}
use Rattle.md_plain.proofs.size.+sizes.Goals as goal

pub parts_size-returns-in-Conj : goal.parts_size-returns-in-Conj
parts_size-returns-in-Conj t c =
    subst (λ (n : ℕ). IfOk c.goals_size.result (λ s. s ≡ n)) (ap parts_size (conj_of c.args.kind.now c.in-Conj.goals c.as_slice.result.now c.in-Conj.is c.as_slice.ensures.value)) c.goals_size.ensures

pub parts_size-returns-in-Disj : goal.parts_size-returns-in-Disj
parts_size-returns-in-Disj t c =
    subst (λ (n : ℕ). IfOk c.goals_size-in-Disj.result (λ s. s ≡ n)) (ap parts_size (disj_of c.args.kind.now c.in-Disj.arms c.as_slice-in-Disj.result.now c.in-Disj.is c.as_slice-in-Disj.ensures.value)) c.goals_size-in-Disj.ensures

pub goal_size-returns : goal.goal_size-returns
goal_size-returns t c = grind (arith, common_steps)

pub goals_size-loop-goal-preserved : goal.goals_size-loop-goal-preserved
goals_size-loop-goal-preserved t c = grind (arith, common_steps)

pub goals_size-returns : goal.goals_size-returns
goals_size-returns t c = grind (arith, common_steps)

pub parts_size-returns-in-Not : goal.parts_size-returns-in-Not
parts_size-returns-in-Not t c = grind (arith, common_steps)

pub parts_size-returns-in-Some : goal.parts_size-returns-in-Some
parts_size-returns-in-Some t c = grind (arith, common_steps)

pub parts_size-returns-in-True : goal.parts_size-returns-in-True
parts_size-returns-in-True t c = grind (arith, common_steps)

pub parts_size-returns-in-True-11 : goal.parts_size-returns-in-True-11
parts_size-returns-in-True-11 t c = grind (arith, common_steps)

pub parts_size-returns-in-True-2 : goal.parts_size-returns-in-True-2
parts_size-returns-in-True-2 t c = grind (arith, common_steps)

pub parts_size-returns-in-True-3 : goal.parts_size-returns-in-True-3
parts_size-returns-in-True-3 t c = grind (arith, common_steps)

pub parts_size-returns-in-True-4 : goal.parts_size-returns-in-True-4
parts_size-returns-in-True-4 t c = grind (arith, common_steps)

pub parts_size-returns-in-True-5 : goal.parts_size-returns-in-True-5
parts_size-returns-in-True-5 t c = grind (arith, common_steps)

pub parts_size-returns-in-True-6 : goal.parts_size-returns-in-True-6
parts_size-returns-in-True-6 t c = grind (arith, common_steps)

pub parts_size-returns-in-True-7 : goal.parts_size-returns-in-True-7
parts_size-returns-in-True-7 t c = grind (arith, common_steps)

pub parts_size-returns-in-True-8 : goal.parts_size-returns-in-True-8
parts_size-returns-in-True-8 t c = grind (arith, common_steps)

pub parts_size-returns-in-True-9 : goal.parts_size-returns-in-True-9
parts_size-returns-in-True-9 t c = grind (arith, common_steps)

pub parts_size-returns-in_ok-plus-in-If : goal.parts_size-returns-in_ok-plus-in-If
parts_size-returns-in_ok-plus-in-If t c = grind (arith, common_steps)
