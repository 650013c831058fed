use Rattle.law_events.proofs.SiteLemmas.{programs_have_tables}
use Rattle.law_events.proofs.laws.programs_have_tables.Goals as goal

pub returns : goal.returns
returns c = programs_have_tables
