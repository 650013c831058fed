-- for speed: the search comes to this last (tools/answers/speed.py)
use Rattle.std.proofs.Common.{arith}
use Rattle.std.proofs.lemmas.Grind.{common_steps}
use Rattle.md_dump.proofs.summing.are_all_small.Goals as goal

pub loop-file-init : goal.loop-file-init
loop-file-init c = grind (arith, common_steps)

pub loop-file-smaller : goal.loop-file-smaller
loop-file-smaller c = grind (arith, common_steps)
