use Rattle.law_frames.proofs.RunLemmas.{in_run_moves, in_run_stops, in_run_turns, in_run_sticks, running_framed}
use Rattle.law_frames.proofs.runs.machines_run.Goals as goal

pub returns-clause-moves : goal.returns-clause-moves
returns-clause-moves c s lv b left done items S T d e cs ds k m r to = in_run_moves r to

pub returns-clause-stops : goal.returns-clause-stops
returns-clause-stops c s lv b left done items S d cs k r ends = in_run_stops r ends

pub returns-clause-turns : goal.returns-clause-turns
returns-clause-turns c s lv b left done a g weight items S T d e cs ds k m r to = in_run_turns r to

pub returns-clause-sticks : goal.returns-clause-sticks
returns-clause-sticks c s lv b left done a g weight S d cs k r sticks = in_run_sticks r sticks

pub returns-clause-framed : goal.returns-clause-framed
returns-clause-framed c lv S w x d cs k st stands = running_framed stands
