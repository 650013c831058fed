use Rattle.md_compare.proofs.OneRow.{told_once}
use Rattle.md_compare.proofs.laws.a_name_has_one_row.Goals as goal

pub returns : goal.returns
returns c v w by least old new = told_once v w by least old new
