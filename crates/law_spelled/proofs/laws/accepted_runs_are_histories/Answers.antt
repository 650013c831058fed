use Rattle.law_spelled.proofs.TextLaws.{accepted_runs_are_histories}
use Rattle.law_spelled.proofs.laws.accepted_runs_are_histories.Goals as goal

pub returns : goal.returns
returns c = accepted_runs_are_histories
