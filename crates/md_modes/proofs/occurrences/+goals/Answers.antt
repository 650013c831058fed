use Rattle.std.proofs.Common.{arith, ◌∙◌, ap, sym}
use Rattle.std.proofs.lemmas.Grind.{common_steps}
use Rattle.md_modes.proofs.Listed.{listed_along, listed-loop, listed-end, goals_variables, goals_variables-Conj, goals_variables-Disj}
use Rattle.md_modes.proofs.occurrences.+goals.Goals as goal

pub add_goal-returns-in-Conj : goal.add_goal-returns-in-Conj
add_goal-returns-in-Conj t c =
    listed_along c.add_goals.result c.args.vars.now.items c.add_goals.new.vars.items _ _
    (goals_variables-Conj c.args.goal.now c.in-Conj.goals c.in-Conj.is ∙ ap goals_variables (sym c.as_slice.ensures.value))
    c.add_goals.ensures

pub add_goal-returns-in-Disj : goal.add_goal-returns-in-Disj
add_goal-returns-in-Disj t c =
    listed_along c.add_goals-in-Disj.result c.args.vars.now.items c.add_goals-in-Disj.new.vars.items _ _
    (goals_variables-Disj c.args.goal.now c.in-Disj.goals c.in-Disj.is ∙ ap goals_variables (sym c.as_slice-in-Disj.ensures.value))
    c.add_goals-in-Disj.ensures

pub add_goals-loop-goal-preserved : goal.add_goals-loop-goal-preserved
add_goals-loop-goal-preserved t c =
    listed-loop c.loop-goal.vars.items c.add_goal.new.vars.items _ c.args.goals.now c.loop-goal.goal-index c.goal-item.result
    (omega arith) c.goal-item.is c.in_ok-add_goal.ensures c.loop-goal.invariant

pub add_goals-returns : goal.add_goals-returns
add_goals-returns t c = listed-end c.loop-goal.vars.items _ c.args.goals.now c.loop-goal.goal-index (omega arith) c.loop-goal.invariant

pub add_goal-returns-in_ok-add_goal-in-If-2 : goal.add_goal-returns-in_ok-add_goal-in-If-2
add_goal-returns-in_ok-add_goal-in-If-2 t c = grind (arith, common_steps)

pub add_goal-returns-in-Not : goal.add_goal-returns-in-Not
add_goal-returns-in-Not t c = grind (arith, common_steps)

pub add_goal-returns-in_ok-extend_from_slice-in-Some : goal.add_goal-returns-in_ok-extend_from_slice-in-Some
add_goal-returns-in_ok-extend_from_slice-in-Some t c = grind (arith, common_steps)
