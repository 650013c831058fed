use Rattle.law_safety.proofs.Whole.{proper}
use Rattle.law_runs.proofs.Joining.{move_with, unfolded_fits}
use Rattle.law_runs.proofs.FitLifts.{fit_begins_main, fit_begins_cut, fit_moves, fit_turns, fit_stops}
use Rattle.law_runs.proofs.runs.fit_machines_run.Goals as goal

pub returns-clause-begins : goal.returns-clause-begins
returns-clause-begins c = fit_begins_main

pub returns-clause-begins_cut : goal.returns-clause-begins_cut
returns-clause-begins_cut c = fit_begins_cut

pub returns-clause-applies : goal.returns-clause-applies
returns-clause-applies c text s spells h st a n w by fits = unfolded_fits (proper text s spells h) by fits

pub returns-clause-keeps : goal.returns-clause-keeps
returns-clause-keeps c s st items S d cs k by fits = move_with by fits

pub returns-clause-moves : goal.returns-clause-moves
returns-clause-moves c s b left done S T d e cs ds k m items r t = fit_moves r t

pub returns-clause-turns : goal.returns-clause-turns
returns-clause-turns c s b left done S T d e cs ds k m a g weight items r t = fit_turns r t

pub returns-clause-stops : goal.returns-clause-stops
returns-clause-stops c s b left done items S d cs k r ends = fit_stops r ends
