use Rattle.std.proofs.Common.{arith}
use Rattle.law_generated.specs.Generated.{most_steps}
use Rattle.law_generated.proofs.Finished.{run-finished, most-enough}
use Rattle.law_generated.proofs.Contexts.{run-contexts}
use Rattle.law_generated.proofs.runs.greatest_budget_suffices.Goals as goal

pub returns-clause-finished : goal.returns-clause-finished
returns-clause-finished c n some few = run-finished n most_steps some (omega arith) (most-enough n few)

pub returns-clause-contexts : goal.returns-clause-contexts
returns-clause-contexts c n some few = run-contexts n most_steps some (omega arith) (most-enough n few)
