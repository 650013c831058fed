use Rattle.law_events.proofs.RunLaw.{runs_are_histories}
use Rattle.law_events.proofs.laws.runs_are_histories.Goals as goal

pub returns : goal.returns
returns c = runs_are_histories
