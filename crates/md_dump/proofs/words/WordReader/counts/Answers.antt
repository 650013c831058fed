-- for speed: the search comes to this last (tools/answers/speed.py)
use Rattle.std.proofs.Common.{arith}
use Rattle.std.proofs.lemmas.Grind.{common_steps}
use Rattle.md_dump.proofs.words.WordReader.counts.Goals as goal

pub returns : goal.returns
returns c = grind (arith, common_steps)
