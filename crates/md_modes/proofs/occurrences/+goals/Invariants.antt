use Rattle.std.proofs.Common.{◌≡◌, ◌++◌, drop}
use Rattle.md_modes.proofs.Listed.{goals_variables}
use Rattle.md_modes.proofs.occurrences.+goals.Given as goal

abbrev pub invariant-add_goals-loop-goal : goal.invariant-add_goals-loop-goal
invariant-add_goals-loop-goal l = l.vars.items ++ goals_variables (drop l.goal-index l.goals) ≡ l.fn.vars.items ++ goals_variables l.goals
