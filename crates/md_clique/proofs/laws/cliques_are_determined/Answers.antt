use Rattle.md_clique.proofs.OneNumbering.{one_numbering}
use Rattle.md_clique.proofs.laws.cliques_are_determined.Goals as goal

pub returns : goal.returns
returns c = one_numbering
