use Rattle.law_frames.proofs.SimpleTurns.{conjunction_goes}
use Rattle.law_frames.proofs.turns.turns_of_conjunctions.Goals as goal

pub returns : goal.returns
returns c = record { goes = λ s lv S a n l ps w x d cs k st stands leaves. conjunction_goes s stands leaves }
