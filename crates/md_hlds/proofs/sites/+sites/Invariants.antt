use Rattle.std.proofs.Common.{◌≡◌, ◌+◌, length, take}
use Rattle.md_hlds.specs.HldsGoal.{goals_of, goals_lines, gathered}
use Rattle.md_hlds.proofs.sites.+sites.Given as goal

abbrev pub invariant-find_in_all-loop-goal : goal.invariant-find_in_all-loop-goal
invariant-find_in_all-loop-goal l = length (goals_lines (gathered (goals_of (take l.goal-index l.goals)))) + l.before ≡ l.fn.before
