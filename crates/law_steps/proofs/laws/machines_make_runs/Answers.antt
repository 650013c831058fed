use Rattle.law_steps.proofs.MakesLemmas.{made_is_run, no_budget_for_main}
use Rattle.law_steps.proofs.laws.machines_make_runs.Goals as goal

pub returns-clause-whole : goal.returns-clause-whole
returns-clause-whole c = made_is_run

pub returns-clause-none : goal.returns-clause-none
returns-clause-none c = no_budget_for_main
