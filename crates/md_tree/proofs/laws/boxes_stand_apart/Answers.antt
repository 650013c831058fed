use Rattle.md_tree.proofs.Apart.{boxes_apart}
use Rattle.md_tree.proofs.laws.boxes_stand_apart.Goals as goal

pub returns : goal.returns
returns c f v by least valid viewed = boxes_apart f v by least valid viewed
