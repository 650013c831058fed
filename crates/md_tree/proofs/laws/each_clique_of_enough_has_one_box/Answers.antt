use Rattle.md_tree.proofs.Once.{one_box}
use Rattle.md_tree.proofs.laws.each_clique_of_enough_has_one_box.Goals as goal

pub returns : goal.returns
returns c f v by least k valid viewed some lt = one_box f valid v viewed by least k some lt
