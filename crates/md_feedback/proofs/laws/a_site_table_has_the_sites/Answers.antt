use Rattle.md_feedback.proofs.Whole.{sites_of_table}
use Rattle.md_feedback.proofs.laws.a_site_table_has_the_sites.Goals as goal

pub returns : goal.returns
returns c = sites_of_table
