use Rattle.law_frames.proofs.Entering.{anything_above}
use Rattle.law_frames.proofs.Filling.{replaced_above, any_frame}
use Rattle.law_frames.proofs.turns.frames_above_the_top.Goals as goal

pub returns-clause-anything : goal.returns-clause-anything
returns-clause-anything c lv S T w x d cs k st agree stands = anything_above agree stands

pub returns-clause-replaced : goal.returns-clause-replaced
returns-clause-replaced c = replaced_above

pub returns-clause-new : goal.returns-clause-new
returns-clause-new c = any_frame
