use Rattle.law_files.proofs.OfRuns.{entered_once}
use Rattle.law_files.proofs.views.cliques_of_runs_are_entered_once.Goals as goal

pub returns : goal.returns
returns c t s h finished f cliques is of are = entered_once t s h finished f is of cliques are
