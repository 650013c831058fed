use Rattle.law_fits.proofs.StateTurns.{turn_known}
use Rattle.law_fits.proofs.states.turns_of_states_fit.Goals as goal

pub returns : goal.returns
returns c = turn_known
