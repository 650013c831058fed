use Rattle.md_reader.proofs.CompleteTexts.{one_program}
use Rattle.md_reader.proofs.laws.a_text_spells_one_program.Goals as goal

pub returns : goal.returns
returns c = one_program
