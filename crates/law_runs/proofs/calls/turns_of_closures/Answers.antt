use Rattle.law_safety.proofs.Whole.{proper}
use Rattle.law_runs.proofs.FitCalls.{fit_open_cut, fit_open_whole, closure_there, open_are_last}
use Rattle.law_runs.proofs.calls.turns_of_closures.Goals as goal

pub returns-clause-there : goal.returns-clause-there
returns-clause-there c text s spells h S a n l site fn ys w x cl cs k st stands fits = closure_there s (proper text s spells h) stands fits

pub returns-clause-open_arguments : goal.returns-clause-open_arguments
returns-clause-open_arguments c = open_are_last

pub returns-clause-cut : goal.returns-clause-cut
returns-clause-cut c text s spells h S T a n l site fn ys w x cl cs k st stands fits m held p slot at many frame = fit_open_cut s (proper text s spells h) m held p stands fits slot at many frame

pub returns-clause-whole : goal.returns-clause-whole
returns-clause-whole c text s spells h S T a n l site fn ys w x cl cs k st stands fits m held p height slot at many frame = fit_open_whole s (proper text s spells h) m held p height stands fits slot at many frame
