use Rattle.law_frames.proofs.ExceptionLemmas.{after_raising, after_all_raised}
use Rattle.law_frames.proofs.failing.exceptions.Goals as goal

pub returns-clause-leaves : goal.returns-clause-leaves
returns-clause-leaves c lv S x d cs k st stands = after_raising stands

pub returns-clause-ends : goal.returns-clause-ends
returns-clause-ends c lv S cs k st stands = after_all_raised stands
