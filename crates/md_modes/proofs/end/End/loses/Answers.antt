use Rattle.std.proofs.Common.{arith}
use Rattle.std.proofs.lemmas.Grind.{common_steps}
use Rattle.md_modes.proofs.end.End.loses.Goals as goal

pub returns-then-is_lost : goal.returns-then-is_lost
returns-then-is_lost c = grind (arith, common_steps)

pub loop-variable-preserved : goal.loop-variable-preserved
loop-variable-preserved c = grind (arith, common_steps)

pub returns : goal.returns
returns c = grind (arith, common_steps)
