use Rattle.law_events.proofs.RunLaw.{fronts_are_histories, next_events_follow}
use Rattle.law_events.proofs.laws.fronts_are_histories.Goals as goal

pub returns-clause-fronts : goal.returns-clause-fronts
returns-clause-fronts c = fronts_are_histories

pub returns-clause-next : goal.returns-clause-next
returns-clause-next c = next_events_follow
