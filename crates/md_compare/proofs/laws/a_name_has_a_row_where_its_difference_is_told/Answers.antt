use Rattle.md_compare.proofs.Rows.{has_row}
use Rattle.md_compare.proofs.laws.a_name_has_a_row_where_its_difference_is_told.Goals as goal

pub returns : goal.returns
returns c v w by least name = has_row v w by least name
