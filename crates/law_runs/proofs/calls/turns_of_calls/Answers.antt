use Rattle.law_safety.proofs.Whole.{proper}
use Rattle.law_runs.proofs.FitCalls.{fit_call_cut, fit_call_whole, call_there}
use Rattle.law_runs.proofs.calls.turns_of_calls.Goals as goal

pub returns-clause-there : goal.returns-clause-there
returns-clause-there c text s spells h S a n l site name ys w x cl cs k st stands fits = call_there s (proper text s spells h) stands fits

pub returns-clause-cut : goal.returns-clause-cut
returns-clause-cut c text s spells h S T a n l site name ys w x cl cs k st stands fits q called many frame = fit_call_cut s (proper text s spells h) q stands fits called many frame

pub returns-clause-whole : goal.returns-clause-whole
returns-clause-whole c text s spells h S T a n l site name ys w x cl cs k st stands fits q height called many frame = fit_call_whole s (proper text s spells h) q height stands fits called many frame
