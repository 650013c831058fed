use Rattle.law_fits.proofs.TurnReads.{turn_by_slots}
use Rattle.law_fits.proofs.turns.turns_go_by_slots.Goals as goal

pub returns : goal.returns
returns c = turn_by_slots
