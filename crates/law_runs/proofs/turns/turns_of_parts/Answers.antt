use Rattle.law_safety.proofs.Whole.{proper}
use Rattle.law_runs.proofs.FitTurns.{fit_conjunction, fit_if, fit_not, fit_some}
use Rattle.law_runs.proofs.turns.turns_of_parts.Goals as goal

pub returns-clause-conjunction : goal.returns-clause-conjunction
returns-clause-conjunction c text s spells h S a n l ps w x cl cs k st stands fits = fit_conjunction s (proper text s spells h) stands fits

pub returns-clause-condition : goal.returns-clause-condition
returns-clause-condition c text s spells h S a n l p t e w x cl cs k st stands fits = fit_if s (proper text s spells h) stands fits

pub returns-clause-negation : goal.returns-clause-negation
returns-clause-negation c text s spells h S a n l p w x cl cs k st stands fits = fit_not s (proper text s spells h) stands fits

pub returns-clause-quantified : goal.returns-clause-quantified
returns-clause-quantified c text s spells h S a n l vs p w x cl cs k st stands fits = fit_some s (proper text s spells h) stands fits
