use Rattle.law_generated.proofs.Finished.{run-unfinished}
use Rattle.law_generated.proofs.runs.no_smaller_budget_suffices.Goals as goal

pub returns : goal.returns
returns c = run-unfinished
