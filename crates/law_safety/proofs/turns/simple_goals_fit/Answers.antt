use Rattle.law_safety.proofs.SimpleGoals.{simple_leads}
use Rattle.law_safety.proofs.turns.simple_goals_fit.Goals as goal

pub returns : goal.returns
returns c = simple_leads
