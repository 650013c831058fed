use Rattle.law_safety.proofs.EachTurn.{no_turn_is_left_out}
use Rattle.law_safety.proofs.runs.no_turn_is_left_out.Goals as goal

pub returns : goal.returns
returns c = no_turn_is_left_out
