use Rattle.std.proofs.Common.{◌≡◌, drop}
use Rattle.md_modes.proofs.Listed.{goals_variables}
use Rattle.md_modes.specs.Branches.{some_of}
use Rattle.md_feedback.specs.Search.{mark_at}
use Rattle.md_feedback.proofs.marks.+mentions.Given as goal

abbrev pub invariant-mentions_some-loop-goal : goal.invariant-mentions_some-loop-goal
invariant-mentions_some-loop-goal l = some_of (mark_at l.marks) (goals_variables l.goals) ≡ some_of (mark_at l.marks) (goals_variables (drop l.goal-index l.goals))
