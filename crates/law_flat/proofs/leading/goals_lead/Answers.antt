use Rattle.law_flat.proofs.Goals.{goal_leads}
use Rattle.law_flat.proofs.leading.goals_lead.Goals as goal

pub returns : goal.returns
returns c = goal_leads
