use Rattle.law_events.proofs.RunLaw.{links_of_runs_balance, contexts_of_runs_balance}
use Rattle.law_events.proofs.laws.ended_runs_balance.Goals as goal

pub returns-clause-links : goal.returns-clause-links
returns-clause-links c = links_of_runs_balance

pub returns-clause-contexts : goal.returns-clause-contexts
returns-clause-contexts c = contexts_of_runs_balance
