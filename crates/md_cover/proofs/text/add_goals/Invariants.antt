use Rattle.std.proofs.Common.{◌≡◌, ◌++◌, take}
use Rattle.md_cover.specs.Text.{goal_lines}
use Rattle.md_cover.proofs.text.add_goals.Given as goal

-- the lines so far are those of the goals so far
abbrev pub invariant-loop-goal : goal.invariant-loop-goal
invariant-loop-goal l = l.out.items ≡ l.fn.out.items ++ goal_lines (take l.goal-index l.goals)
