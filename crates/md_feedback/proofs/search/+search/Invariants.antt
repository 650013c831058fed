use Rattle.std.proofs.Common.{◌≡◌, ◌+◌, ◌++◌, drop}
use Rattle.md_hlds.specs.HldsGoal.{gathered, goals_of, goals_size, goals_among}
use Rattle.md_hlds.specs.Hlds.{hlds_of}
use Rattle.md_feedback.specs.Search.{StandsFrom, reading_in, each_pairs, arm_pairs}
use Rattle.md_feedback.proofs.search.+search.Given as goal

abbrev pub invariant-add_conjunction-loop-place : goal.invariant-add_conjunction-loop-place
invariant-add_conjunction-loop-place l =
    (l.number + goals_size (gathered (goals_of (drop l.place l.goals))) ≡ l.fn.first + goals_size (gathered (goals_of l.goals)))
    × StandsFrom (hlds_of l.search.moded.now) l.number (goals_among (gathered (goals_of (drop l.place l.goals))))
    × (l.fn.pairs ++ each_pairs (reading_in l.search) l.fn.first (gathered (goals_of l.goals))
    ≡ l.pairs ++ each_pairs (reading_in l.search) l.number (gathered (goals_of (drop l.place l.goals))))

abbrev pub invariant-add_arms-loop-arm : goal.invariant-add_arms-loop-arm
invariant-add_arms-loop-arm l =
    (l.number + goals_size (gathered (goals_of (drop l.arm-index l.arms))) ≡ l.fn.first + goals_size (gathered (goals_of l.arms)))
    × StandsFrom (hlds_of l.search.moded.now) l.number (goals_among (gathered (goals_of (drop l.arm-index l.arms))))
    × (l.fn.pairs ++ arm_pairs (reading_in l.search) l.fn.first (gathered (goals_of l.arms))
    ≡ l.pairs ++ arm_pairs (reading_in l.search) l.number (gathered (goals_of (drop l.arm-index l.arms))))
