use Rattle.std.proofs.Common.{◌≡◌, drop}
use Rattle.md_hlds.specs.HldsGoal.{goals_of, gathered}
use Rattle.md_code.specs.Tables.{with_goals}
use Rattle.md_code.specs.Numbers.{texts_of}
use Rattle.md_code.proofs.literals.+literals.Given as goal

abbrev pub invariant-add_literals_of_all-loop-goal : goal.invariant-add_literals_of_all-loop-goal
invariant-add_literals_of_all-loop-goal l =
    with_goals (texts_of l.literals.keys) (gathered (goals_of (drop l.goal-index l.goals))) ≡ with_goals (texts_of l.fn.literals.keys) (gathered (goals_of l.goals))
