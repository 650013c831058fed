use Rattle.law_events.proofs.RunLaw.{ended_runs_are_left}
use Rattle.law_events.proofs.laws.ended_runs_are_left.Goals as goal

pub returns : goal.returns
returns c = ended_runs_are_left
