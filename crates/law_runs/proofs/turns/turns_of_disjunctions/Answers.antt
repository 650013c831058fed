use Rattle.law_safety.proofs.Whole.{proper}
use Rattle.law_runs.proofs.FitTurns.{fit_disjunction}
use Rattle.law_runs.proofs.turns.turns_of_disjunctions.Goals as goal

pub returns : goal.returns
returns c text s spells h S a n l ps w x cl cs k st stands fits = fit_disjunction s (proper text s spells h) stands fits
