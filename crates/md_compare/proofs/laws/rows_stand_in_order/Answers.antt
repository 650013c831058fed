use Rattle.md_compare.proofs.OneRow.{rows_ordered}
use Rattle.md_compare.proofs.laws.rows_stand_in_order.Goals as goal

pub returns : goal.returns
returns c v w by least old new = rows_ordered v w by least old new
