use Rattle.std.proofs.Common.{◌≡◌, ◌+◌, ◌++◌, ℕ, List, drop}
use Rattle.md_hlds.specs.HldsGoal.{gathered, goals_of, goals_size, goals_among, numbered_from}
use Rattle.md_hlds.specs.Hlds.{hlds_of}
use Rattle.md_feedback.specs.Search.{StandsFrom, AreMarked, binds_in, partners, reading_in}
use Rattle.md_feedback.proofs.search.add_partners.Given as goal

-- the goals that are left, which stand in the program; the pairs so far, and those with the goals that are left
abbrev pub invariant-loop-goal : goal.invariant-loop-goal
invariant-loop-goal l =
    (l.place + goals_size (gathered (goals_of (drop l.goal-index l.behind))) ≡ l.fn.next + goals_size (gathered (goals_of l.behind)))
    × StandsFrom (hlds_of l.search.moded.now) l.place (goals_among (gathered (goals_of (drop l.goal-index l.behind))))
    × ((bound : List ℕ) × AreMarked l.bound.items bound
    × (l.fn.pairs ++ partners (reading_in l.search) (l.fn.first.0, l.fn.first.1) (binds_in (reading_in l.search) l.fn.number) (numbered_from l.fn.next (gathered (goals_of l.behind)))
    ≡ l.pairs ++ partners (reading_in l.search) (l.site, l.calls) bound (numbered_from l.place (gathered (goals_of (drop l.goal-index l.behind))))))
