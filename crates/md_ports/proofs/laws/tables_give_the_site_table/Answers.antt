use Rattle.md_ports.proofs.SiteTables.{table_given}
use Rattle.md_ports.proofs.laws.tables_give_the_site_table.Goals as goal

pub returns : goal.returns
returns c = λ s. table_given s _
