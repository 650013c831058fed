use Rattle.law_events.proofs.RunLaw.{activations_of_runs_end, cut_ones_of_runs_have_exited}
use Rattle.law_events.proofs.laws.activations_of_runs_end.Goals as goal

pub returns-clause-ended : goal.returns-clause-ended
returns-clause-ended c = activations_of_runs_end

pub returns-clause-cut : goal.returns-clause-cut
returns-clause-cut c = cut_ones_of_runs_have_exited
