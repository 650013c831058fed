use Rattle.std.proofs.Common.{◌≡◌, take, length}
use Rattle.md_hlds.specs.HldsGoal.{goals_of, gathered, goals_lines}
use Rattle.md_plain.proofs.goal.+sites.Given as goal

abbrev pub invariant-sites_among-loop-goal : goal.invariant-sites_among-loop-goal
invariant-sites_among-loop-goal l = l.total ≡ length (goals_lines (gathered (goals_of (take l.goal-index l.goals))))
