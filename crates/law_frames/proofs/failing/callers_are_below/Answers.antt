use Rattle.law_frames.proofs.FailureLemmas.{no_callers, some_callers}
use Rattle.law_frames.proofs.failing.callers_are_below.Goals as goal

pub returns-clause-none : goal.returns-clause-none
returns-clause-none c = no_callers

pub returns-clause-some : goal.returns-clause-some
returns-clause-some c = some_callers
