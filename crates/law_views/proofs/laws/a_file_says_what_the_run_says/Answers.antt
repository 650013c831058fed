use Rattle.law_views.proofs.OneView.{run_view_of, file_view_of}
use Rattle.law_views.proofs.laws.a_file_says_what_the_run_says.Goals as goal

pub returns-clause-forth : goal.returns-clause-forth
returns-clause-forth c = run_view_of

pub returns-clause-back : goal.returns-clause-back
returns-clause-back c = file_view_of
