use Rattle.md_ports.proofs.Sound.{tables_sound}
use Rattle.md_ports.proofs.laws.tables_are_sound.Goals as goal

pub returns : goal.returns
returns c = tables_sound
