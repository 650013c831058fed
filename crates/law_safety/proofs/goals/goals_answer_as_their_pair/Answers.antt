use Rattle.law_safety.proofs.GoalLaws.{goals_answer_as_their_pair, answers_at_a_turn}
use Rattle.law_safety.proofs.goals.goals_answer_as_their_pair.Goals as goal

pub returns : goal.returns
returns c = record { at_a_place = goals_answer_as_their_pair; at_a_turn = answers_at_a_turn }
