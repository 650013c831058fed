use Rattle.law_faults.proofs.Written.{text_laid}
use Rattle.law_faults.proofs.laws.profiles_are_written_in_lines.Goals as goal

pub returns : goal.returns
returns c = text_laid
