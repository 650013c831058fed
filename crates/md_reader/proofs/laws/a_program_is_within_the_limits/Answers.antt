use Rattle.md_reader.proofs.FaultTexts.{program_within}
use Rattle.md_reader.proofs.laws.a_program_is_within_the_limits.Goals as goal

pub returns : goal.returns
returns c = λ text p s. program_within text p s.end s.program s.whole
