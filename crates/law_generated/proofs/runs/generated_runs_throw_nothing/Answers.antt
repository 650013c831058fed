use Rattle.law_generated.proofs.Finished.{run-throws-nothing}
use Rattle.law_generated.proofs.runs.generated_runs_throw_nothing.Goals as goal

pub returns : goal.returns
returns c = run-throws-nothing
