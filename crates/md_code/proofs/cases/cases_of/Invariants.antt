use Rattle.std.proofs.Common.{◌≡◌, ◌++◌, suc, drop}
use Rattle.md_hlds.specs.Hlds.{hlds_of}
use Rattle.md_hlds.specs.HldsGoal.{goals_of, gathered, goals_among}
use Rattle.md_switch.specs.Keys.{keys_told}
use Rattle.md_code.specs.Facts.{Stand}
use Rattle.md_code.specs.Details.{cases_of}
use Rattle.md_code.proofs.cases.cases_of.Given as goal

abbrev pub invariant-loop-place : goal.invariant-loop-place
invariant-loop-place l = Stand (hlds_of l.tables.source.checked.now) (suc l.number) (goals_among (gathered (goals_of l.arms)))
    → (l.cases.items ++ cases_of (hlds_of l.tables.source.checked.now) (keys_told (drop l.place l.keys)) l.part (gathered (goals_of (drop l.place l.arms)))
    ≡ cases_of (hlds_of l.tables.source.checked.now) (keys_told l.keys) (suc l.number) (gathered (goals_of l.arms)))
    × Stand (hlds_of l.tables.source.checked.now) l.part (goals_among (gathered (goals_of (drop l.place l.arms))))
