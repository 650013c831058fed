use Rattle.std.proofs.Common.{◌≡◌, ◌≤◌, ◌++◌, length, drop}
use Rattle.md_hlds.specs.Hlds.{hlds_of}
use Rattle.md_hlds.specs.HldsGoal.{goals_of, gathered, goals_among}
use Rattle.md_code.specs.Facts.{Stand, parts_fact, facts_from, both_facts}
use Rattle.md_code.proofs.survey.+survey.Given as goal

abbrev pub invariant-add_facts_of_all-loop-goal : goal.invariant-add_facts_of_all-loop-goal
invariant-add_facts_of_all-loop-goal l = record {
  keeps : length l.fn.facts.items ≤ length l.facts.items;
  facts : Stand (hlds_of l.source.checked.now) (length l.fn.facts.items) (goals_among (gathered (goals_of l.goals)))
      → (l.fn.facts.items ++ facts_from (hlds_of l.source.checked.now) (length l.fn.facts.items) (goals_among (gathered (goals_of l.goals)))
      ≡ l.facts.items ++ facts_from (hlds_of l.source.checked.now) (length l.facts.items) (goals_among (gathered (goals_of (drop l.goal-index l.goals)))))
      × (both_facts l.all (parts_fact (hlds_of l.source.checked.now) (length l.facts.items) (gathered (goals_of (drop l.goal-index l.goals))))
      ≡ parts_fact (hlds_of l.source.checked.now) (length l.fn.facts.items) (gathered (goals_of l.goals)))
      × Stand (hlds_of l.source.checked.now) (length l.facts.items) (goals_among (gathered (goals_of (drop l.goal-index l.goals))));
}
