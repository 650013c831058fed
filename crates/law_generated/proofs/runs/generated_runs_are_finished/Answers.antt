use Rattle.law_generated.proofs.Finished.{run-finished}
use Rattle.law_generated.proofs.Contexts.{run-contexts}
use Rattle.law_generated.proofs.runs.generated_runs_are_finished.Goals as goal

pub returns-clause-finished : goal.returns-clause-finished
returns-clause-finished c = run-finished

pub returns-clause-contexts : goal.returns-clause-contexts
returns-clause-contexts c = run-contexts
