use Rattle.std.proofs.Common.{◌+◌, ◌*◌, ◌-◌, ◌≡◌}
use Rattle.md_hlds.specs.HldsGoal.{goals_of, goal_of}
use Rattle.md_reader.specs.Input.{input_of}
use Rattle.md_reader.specs.Rules.{units, units_from, arms, arms_from, within}
use Rattle.md_reader.proofs.goal.+goals.Given as goal

-- each goal inside another has less room, and in one depth the rules call one another in this order
abbrev pub decreases-conjunction : goal.decreases-conjunction
decreases-conjunction l = 8 * l.room + 3

abbrev pub decreases-units : goal.decreases-units
decreases-units l = 8 * l.room + 2

abbrev pub decreases-unit : goal.decreases-unit
decreases-unit l = 8 * l.room + 1

abbrev pub decreases-group : goal.decreases-group
decreases-group l = 8 * l.room

abbrev pub decreases-negation : goal.decreases-negation
decreases-negation l = 8 * l.room

abbrev pub decreases-quantification : goal.decreases-quantification
decreases-quantification l = 8 * l.room

abbrev pub decreases-disjunction : goal.decreases-disjunction
decreases-disjunction l = 8 * l.room - 1

abbrev pub decreases-choice : goal.decreases-choice
decreases-choice l = 8 * l.room - 1

abbrev pub decreases-branches : goal.decreases-branches
decreases-branches l = 8 * l.room - 2

abbrev pub decreases-arms : goal.decreases-arms
decreases-arms l = 8 * l.room - 2

abbrev pub decreases-part : goal.decreases-part
decreases-part l = 8 * l.room - 4

-- what is left to be read gives what the whole gives
abbrev pub invariant-units-loop-turn : goal.invariant-units-loop-turn
invariant-units-loop-turn l = units l.room (within l.room) (input_of l.fn.input) ≡ units_from l.room (within l.room) (l._turn-end - l._turn) (goals_of l.found.items) (input_of l.input)

abbrev pub invariant-arms-loop-turn : goal.invariant-arms-loop-turn
invariant-arms-loop-turn l = arms (within l.room) (goal_of l.fn.first.value) (input_of l.fn.input) ≡ arms_from (within l.room) (l._turn-end - l._turn) (goals_of l.found.items) (input_of l.input)
