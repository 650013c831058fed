use Rattle.law_events.proofs.RunLaw.{events_are_told}
use Rattle.law_events.proofs.laws.events_are_told.Goals as goal

pub returns : goal.returns
returns c = events_are_told
