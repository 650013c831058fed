use Rattle.law_runs.proofs.FitTurns.{slots_hold}
use Rattle.law_runs.proofs.turns.slots_hold_what_is_read.Goals as goal

pub returns : goal.returns
returns c s S a n l g w x cl cs k st stands = slots_hold s stands
