use Rattle.std.proofs.Common.{arith}
use Rattle.std.proofs.lemmas.Grind.{common_steps}
use Rattle.md_modes.proofs.joined.clashes.Goals as goal

pub returns-then-variable : goal.returns-then-variable
returns-then-variable c = grind (arith, common_steps)

pub loop-variable-preserved : goal.loop-variable-preserved
loop-variable-preserved c = grind (arith, common_steps)

pub returns : goal.returns
returns c = grind (arith, common_steps)

pub inst_in-requires-in-loop-variable : goal.inst_in-requires-in-loop-variable
inst_in-requires-in-loop-variable c = grind (arith, common_steps)
