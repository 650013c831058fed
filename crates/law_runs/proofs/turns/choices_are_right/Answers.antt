use Rattle.law_safety.proofs.Whole.{proper}
use Rattle.law_runs.proofs.Joining.{known_here, leaves_right}
use Rattle.law_runs.proofs.turns.choices_are_right.Goals as goal

pub returns-clause-right : goal.returns-clause-right
returns-clause-right c text s spells h = leaves_right s (proper text s spells h)

pub returns-clause-here : goal.returns-clause-here
returns-clause-here c s S a p w x cl cs k st stands fits = known_here s stands fits
