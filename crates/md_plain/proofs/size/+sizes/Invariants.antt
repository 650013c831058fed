use Rattle.std.proofs.Common.{◌≡◌, ◌+◌, drop}
use Rattle.md_hlds.specs.HldsGoal.{goals_of, gathered, goals_size}
use Rattle.md_plain.proofs.size.+sizes.Given as goal

abbrev pub invariant-goals_size-loop-goal : goal.invariant-goals_size-loop-goal
invariant-goals_size-loop-goal l = l.all + goals_size (gathered (goals_of (drop l.goal-index l.goals))) ≡ goals_size (gathered (goals_of l.goals))
