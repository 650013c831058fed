use Rattle.std.proofs.Common.{◌≡◌, ◌++◌, drop}
use Rattle.md_hlds.specs.HldsGoal.{goals_of, gathered}
use Rattle.md_modes.specs.Goals as spec
use Rattle.md_modes.specs.Notes.{each_notes}
use Rattle.md_modes.specs.Classes.{notes_told}
use Rattle.md_modes.specs.Inside.{IsViewOf}
use Rattle.md_modes.specs.Joins.{occurs}
use Rattle.md_inst.specs.Kinds.{inst_map_of}
use Rattle.md_modes.specs.Clauses.{scope_at}
use Rattle.md_modes.proofs.Listed.{goals_variables}
use Rattle.md_modes.proofs.GoalLemmas.{continued, ArmsSoFar}
use Rattle.md_modes.proofs.clause.Clause.+goals.Given as goal

-- what the goals that are left lead to, and their notes
abbrev pub invariant-check_each-loop-goal : goal.invariant-check_each-loop-goal
invariant-check_each-loop-goal l =
    (spec.each (scope_at l.self l.strict) (gathered (goals_of l.goals)) (inst_map_of l.fn.insts.items)
    ≡ continued l.reach (spec.each (scope_at l.self l.strict) (gathered (goals_of (drop l.goal-index l.goals))) (inst_map_of l.insts.items)))
    × (notes_told l.notes.items ++ each_notes (scope_at l.self l.strict) (gathered (goals_of (drop l.goal-index l.goals))) (inst_map_of l.insts.items)
    ≡ notes_told l.fn.notes.items ++ each_notes (scope_at l.self l.strict) (gathered (goals_of l.goals)) (inst_map_of l.fn.insts.items))

abbrev pub invariant-check_arms-loop-goal : goal.invariant-check_arms-loop-goal
invariant-check_arms-loop-goal l =
    IsViewOf l.self l.view (goals_variables l.goals) (inst_map_of l.fn.insts.items)
    → ArmsSoFar (scope_at l.self l.at.strict) (occurs l.view.outside) l.view.outside.local.now.places.items l.goals l.goal-index
    (inst_map_of l.fn.insts.items) (inst_map_of l.insts.items) l.joined (notes_told l.fn.notes.items) (notes_told l.notes.items)
