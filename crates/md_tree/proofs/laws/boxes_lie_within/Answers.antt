use Rattle.md_tree.proofs.Within.{boxes_held}
use Rattle.md_tree.proofs.laws.boxes_lie_within.Goals as goal

pub returns : goal.returns
returns c f v by least valid viewed = boxes_held f v by least valid viewed
