use Rattle.md_ports.proofs.SiteTables.{lines_kept}
use Rattle.md_ports.proofs.laws.sites_keep_their_lines.Goals as goal

pub returns : goal.returns
returns c = lines_kept
