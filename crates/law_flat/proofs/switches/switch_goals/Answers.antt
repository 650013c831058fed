use Rattle.law_safety.proofs.Whole.{proper}
use Rattle.law_flat.proofs.Whole.{switch_goal_here}
use Rattle.law_flat.proofs.switches.switch_goals.Goals as goal

pub returns : goal.returns
returns types known spelled s code marks b seen st F p S n l other ps a w x c cs by pc spells fault h1 h2 h3 h4 h5 h6 h7 h8 = switch_goal_here by pc (proper spelled s spells fault) h1 h2 h3 h4 h5 h6 h7 h8
