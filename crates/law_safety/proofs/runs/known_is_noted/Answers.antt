use Rattle.law_safety.proofs.NotedGoals.{noted, one_known}
use Rattle.law_safety.proofs.runs.known_is_noted.Goals as goal

pub returns : goal.returns
returns c = record { noted = noted; one = one_known }
