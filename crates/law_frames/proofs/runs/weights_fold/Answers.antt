use Rattle.law_frames.proofs.Folding.{folds_alike, seen_alike, nothing_pends, silent_turn, silent_steps, nothing_is_pending, turns_silently, moves_silently, turns_charged, moves_charged, stops_charged, charged, refused}
use Rattle.law_frames.proofs.runs.weights_fold.Goals as goal

pub returns-clause-alike : goal.returns-clause-alike
returns-clause-alike c = folds_alike

pub returns-clause-seen : goal.returns-clause-seen
returns-clause-seen c = seen_alike

pub returns-clause-nothing : goal.returns-clause-nothing
returns-clause-nothing c s b left done st stands = nothing_pends stands

pub returns-clause-silent_turn : goal.returns-clause-silent_turn
returns-clause-silent_turn c s b left p done st there a g w pends by = silent_turn pends by

pub returns-clause-silent_steps : goal.returns-clause-silent_steps
returns-clause-silent_steps c s b left p done st there pends by = silent_steps pends by

pub returns-clause-begins : goal.returns-clause-begins
returns-clause-begins c s lv b left done S d cs k r = nothing_is_pending r

pub returns-clause-turns_silently : goal.returns-clause-turns_silently
returns-clause-turns_silently c s lv b left p done a g weight S T d e cs ds k m r to = turns_silently r to

pub returns-clause-moves_silently : goal.returns-clause-moves_silently
returns-clause-moves_silently c s lv b left p done S T d e cs ds k m r to = moves_silently r to

pub returns-clause-turns_charged : goal.returns-clause-turns_charged
returns-clause-turns_charged c s lv b left p done a g weight items S T d e cs ds k m r to = turns_charged r to

pub returns-clause-moves_charged : goal.returns-clause-moves_charged
returns-clause-moves_charged c s lv b left p done items S T d e cs ds k m r le to = moves_charged r le to

pub returns-clause-stops_charged : goal.returns-clause-stops_charged
returns-clause-stops_charged c s lv b left p done items S d cs k r le ends = stops_charged r le ends

pub returns-clause-charged : goal.returns-clause-charged
returns-clause-charged c s lv b left p done S d cs k le r = charged le r

pub returns-clause-refused : goal.returns-clause-refused
returns-clause-refused c s lv b left p done S d cs k lt r = refused lt r
