-- for speed: the search comes to this last (tools/answers/speed.py)
use Rattle.std.proofs.Common.{arith}
use Rattle.std.proofs.lemmas.Grind.{common_steps}
use Rattle.md_dump.proofs.same.all_same.Goals as goal

pub loop-row-preserved : goal.loop-row-preserved
loop-row-preserved g c = grind (arith, common_steps)

pub returns : goal.returns
returns g c = grind (arith, common_steps)

pub returns-in_default : goal.returns-in_default
returns-in_default g c = grind (arith, common_steps)

pub returns-then-not-same : goal.returns-then-not-same
returns-then-not-same g c = grind (arith, common_steps)
