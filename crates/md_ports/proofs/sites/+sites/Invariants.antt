use Rattle.std.proofs.Common.{◌≡◌, ◌+◌, ◌++◌, drop}
use Rattle.md_hlds.specs.HldsGoal.{gathered, goals_of, goals_size}
use Rattle.md_hlds.specs.Hlds.{hlds_of}
use Rattle.md_ports.specs.Reading.{read_goals}
use Rattle.md_ports.proofs.sites.+sites.Given as goal

-- the number of the next goal, with the goals that are left, is that of the end, and the sites so far, with those of the other
-- goals, are all
abbrev pub invariant-add_all-loop-goal : goal.invariant-add_all-loop-goal
invariant-add_all-loop-goal l =
    (l.number + goals_size (gathered (goals_of (drop l.goal-index l.goals))) ≡ l.fn.first + goals_size (gathered (goals_of l.goals)))
    × (l.fn.sites.items ++ read_goals (hlds_of l.moded) l.owner l.fn.first (gathered (goals_of l.goals))
    ≡ l.sites.items ++ read_goals (hlds_of l.moded) l.owner l.number (gathered (goals_of (drop l.goal-index l.goals))))
