use Rattle.std.proofs.Common.{◌≡◌, ◌++◌, ◌+◌, suc, map, drop}
use Rattle.md_hlds.specs.Hlds.{hlds_of}
use Rattle.md_hlds.specs.HldsGoal.{goals_of, gathered, goals_size}
use Rattle.md_det.specs.Findings.{program_findings, switch_at}
use Rattle.md_cost.specs.FileView.{IsFileView}
use Rattle.md_cost.specs.View.{View}
use Rattle.law_turns.specs.Equations as spec
use Rattle.md_cover.specs.Told.{quantity_of, quantities_of, equations_of, view_counts}
use Rattle.md_cover.proofs.building.+building.Given as goal

-- what is left to add is what is left of the goals
abbrev pub invariant-add_conjunction-loop-goal : goal.invariant-add_conjunction-loop-goal
invariant-add_conjunction-loop-goal l =
    (l.next + goals_size (gathered (goals_of (drop l.goal-index l.goals))) ≡ suc l.number + goals_size (gathered (goals_of l.goals)))
    × ((v : View) → IsFileView l.loaded.profile v
    → equations_of l.equations.items ++ spec.each_equations (program_findings (hlds_of l.checked)) (view_counts v) l.number (quantity_of l.before) l.next (gathered (goals_of (drop l.goal-index l.goals)))
    ≡ equations_of l.fn.equations.items ++ spec.each_equations (program_findings (hlds_of l.checked)) (view_counts v) l.number (spec.Entries l.number) (suc l.number) (gathered (goals_of l.goals)))

abbrev pub invariant-add_disjunction-loop-arm : goal.invariant-add_disjunction-loop-arm
invariant-add_disjunction-loop-arm l =
    (l.next + goals_size (gathered (goals_of (drop l.arm-index l.arms))) ≡ suc l.number + goals_size (gathered (goals_of l.arms)))
    × ((quantities_of l.entries.items ++ map spec.Entries (spec.numbers_from l.next (gathered (goals_of (drop l.arm-index l.arms)))) ≡ map spec.Entries (spec.numbers_from (suc l.number) (gathered (goals_of l.arms))))
    × ((quantities_of l.exits.items ++ map spec.Exits (spec.numbers_from l.next (gathered (goals_of (drop l.arm-index l.arms)))) ≡ map spec.Exits (spec.numbers_from (suc l.number) (gathered (goals_of l.arms))))
    × ((v : View) → IsFileView l.loaded.profile v
    → equations_of l.equations.items ++ spec.arm_equations (program_findings (hlds_of l.checked)) (view_counts v) l.next (gathered (goals_of (drop l.arm-index l.arms)))
    ≡ (equations_of l.fn.equations.items ++ spec.entering l.number (spec.numbers_from (suc l.number) (gathered (goals_of l.arms))) (switch_at (program_findings (hlds_of l.checked)) l.number))
    ++ spec.arm_equations (program_findings (hlds_of l.checked)) (view_counts v) (suc l.number) (gathered (goals_of l.arms)))))
