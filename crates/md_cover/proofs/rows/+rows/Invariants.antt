use Rattle.std.proofs.Common.{◌≡◌, ◌≤◌, ◌+◌, ◌++◌, length, drop}
use Rattle.md_hlds.specs.HldsGoal.{goals_of, gathered, goals_size}
use Rattle.md_cover.specs.Rows.{each_rows}
use Rattle.md_cover.proofs.rows.+rows.Given as goal

-- the rows so far, with those of the goals that are left, are all; and so are they by their number
abbrev pub invariant-add_each-loop-goal : goal.invariant-add_each-loop-goal
invariant-add_each-loop-goal l =
    (l.rows.items ++ each_rows (length l.rows.items) l.depth (gathered (goals_of (drop l.goal-index l.goals))) ≡ l.fn.rows.items ++ each_rows (length l.fn.rows.items) l.depth (gathered (goals_of l.goals)))
    × (length l.rows.items + goals_size (gathered (goals_of (drop l.goal-index l.goals))) ≡ length l.fn.rows.items + goals_size (gathered (goals_of l.goals)))
    × (goals_size (gathered (goals_of (drop l.goal-index l.goals))) ≤ goals_size (gathered (goals_of l.goals)))
