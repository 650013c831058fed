use Rattle.law_frames.proofs.Beginning.{begins_cut, begins_whole, begins_main}
use Rattle.law_frames.proofs.RunLemmas.{in_run_begins}
use Rattle.law_frames.proofs.runs.main_begins.Goals as goal

pub returns-clause-cut : goal.returns-clause-cut
returns-clause-cut c s lv m S x main = begins_cut s m main

pub returns-clause-whole : goal.returns-clause-whole
returns-clause-whole c s lv m S x main = begins_whole s m main

pub returns-clause-own : goal.returns-clause-own
returns-clause-own c s lv m S x main = begins_main s m main

pub returns-clause-in_run : goal.returns-clause-in_run
returns-clause-in_run c s lv b m S d is fits stands = in_run_begins is fits stands
