use Rattle.law_events.proofs.SiteLemmas.{owners_agree}
use Rattle.law_events.proofs.laws.owners_agree.Goals as goal

pub returns : goal.returns
returns c = owners_agree
