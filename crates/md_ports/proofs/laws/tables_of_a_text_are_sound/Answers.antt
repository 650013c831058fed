use Rattle.md_ports.proofs.Sound.{tables_sound}
use Rattle.md_ports.proofs.Spelled.{text_orderly}
use Rattle.md_ports.proofs.laws.tables_of_a_text_are_sound.Goals as goal

pub returns : goal.returns
returns c = λ text s main spelled short called. tables_sound s (text_orderly text s spelled short main called)
