use Rattle.law_safety.proofs.Whole.{proper}
use Rattle.law_runs.proofs.FitTurns.{fit_simple}
use Rattle.law_runs.proofs.turns.simple_turns.Goals as goal

pub returns : goal.returns
returns c text s spells h S a n l g w x cl cs k st stands fits = fit_simple s (proper text s spells h) stands fits
