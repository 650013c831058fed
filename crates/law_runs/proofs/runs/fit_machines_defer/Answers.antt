use Rattle.law_runs.proofs.FitLifts.{fit_pends, fit_defers, fit_moves_silently, fit_charges, fit_moves_charged, fit_stops_charged, fit_charged, fit_refused}
use Rattle.law_runs.proofs.runs.fit_machines_defer.Goals as goal

pub returns-clause-nothing : goal.returns-clause-nothing
returns-clause-nothing c s b left done S d cs k r = fit_pends r

pub returns-clause-defers : goal.returns-clause-defers
returns-clause-defers c s b left p done S T d e cs ds k m a g weight r t = fit_defers r t

pub returns-clause-moves : goal.returns-clause-moves
returns-clause-moves c s b left p done S T d e cs ds k m r t = fit_moves_silently r t

pub returns-clause-charges : goal.returns-clause-charges
returns-clause-charges c s b left p done S T d e cs ds k m a g weight items r t = fit_charges r t

pub returns-clause-moves_charged : goal.returns-clause-moves_charged
returns-clause-moves_charged c s b left p done S T d e cs ds k m items r le t = fit_moves_charged r le t

pub returns-clause-stops_charged : goal.returns-clause-stops_charged
returns-clause-stops_charged c s b left p done items S d cs k r le ends = fit_stops_charged r le ends

pub returns-clause-charged : goal.returns-clause-charged
returns-clause-charged c s b left p done S d cs k r le = fit_charged r le

pub returns-clause-refused : goal.returns-clause-refused
returns-clause-refused c s b left p done S d cs k r lt = fit_refused r lt
