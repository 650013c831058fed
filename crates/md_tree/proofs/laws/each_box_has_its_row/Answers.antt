use Rattle.md_tree.proofs.RowsOfBoxes.{boxes_have_rows}
use Rattle.md_tree.proofs.laws.each_box_has_its_row.Goals as goal

pub returns : goal.returns
returns c v by least some = boxes_have_rows v by least some
