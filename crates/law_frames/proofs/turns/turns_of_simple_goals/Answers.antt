use Rattle.law_frames.proofs.Binding.{simple_writes}
use Rattle.law_frames.proofs.SimpleTurns.{slots_are_read, simple_goes, simple_fails, simple_throws, simple_sticks}
use Rattle.law_frames.proofs.turns.turns_of_simple_goals.Goals as goal

pub returns-clause-reads : goal.returns-clause-reads
returns-clause-reads c lv S a p w x d cs k st stands y v mentions is = slots_are_read stands y v mentions is

pub returns-clause-binds : goal.returns-clause-binds
returns-clause-binds c s l g e d extra words out is = let written = simple_writes s l g e d extra words out is in (written.bs, written.is, written.fresh, written.mentioned)

pub returns-clause-goes : goal.returns-clause-goes
returns-clause-goes c s lv S a n l g w x d cs k st stands none extra words out bs is fresh mentioned = simple_goes s stands none extra words out bs is fresh mentioned

pub returns-clause-fails : goal.returns-clause-fails
returns-clause-fails c s lv S a n l g w x d cs k st stands extra is = simple_fails s stands extra is

pub returns-clause-throws : goal.returns-clause-throws
returns-clause-throws c s lv S a n l g w x d cs k st stands bytes is = simple_throws s stands bytes is

pub returns-clause-sticks : goal.returns-clause-sticks
returns-clause-sticks c s lv S a n l g w x d cs k st stands is = simple_sticks s stands is
