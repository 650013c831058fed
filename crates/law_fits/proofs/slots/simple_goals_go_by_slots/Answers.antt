use Rattle.law_fits.proofs.FastLemmas.{simple_by_slots}
use Rattle.law_fits.proofs.slots.simple_goals_go_by_slots.Goals as goal

pub returns : goal.returns
returns c = simple_by_slots
