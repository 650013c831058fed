use Rattle.md_ports.proofs.Spelled.{text_table_lines}
use Rattle.md_ports.proofs.laws.sites_of_a_text_have_its_lines.Goals as goal

pub returns : goal.returns
returns c = text_table_lines
