use Rattle.law_runs.proofs.MainLemmas.{main_is_there, main_frame_by}
use Rattle.law_runs.proofs.runs.main_is_there.Goals as goal

pub returns-clause-there : goal.returns-clause-there
returns-clause-there c = main_is_there

pub returns-clause-frame : goal.returns-clause-frame
returns-clause-frame c = main_frame_by
