use Rattle.std.proofs.Common.{◌≡◌, drop}
use Rattle.md_hlds.specs.HldsGoal.{goals_of, gathered}
use Rattle.md_det.specs.Throws.{some_has_error}
use Rattle.md_det.proofs.throws.+errors.Given as goal

abbrev pub invariant-some_has_error-loop-goal : goal.invariant-some_has_error-loop-goal
invariant-some_has_error-loop-goal l = some_has_error (gathered (goals_of l.goals)) ≡ some_has_error (gathered (goals_of (drop l.goal-index l.goals)))
