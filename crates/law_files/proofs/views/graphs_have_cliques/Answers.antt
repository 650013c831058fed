use Rattle.law_files.proofs.CliquesThere.{cliques_there}
use Rattle.law_files.proofs.views.graphs_have_cliques.Goals as goal

pub returns : goal.returns
returns c n links = cliques_there links n
