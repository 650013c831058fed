use Rattle.std.proofs.Common.{arith}
use Rattle.std.proofs.lemmas.Grind.{common_steps}
use Rattle.md_modes.proofs.main_predicate.has_main.Goals as goal

pub returns-then-is_main : goal.returns-then-is_main
returns-then-is_main c = grind (arith, common_steps)

pub loop-pred-preserved : goal.loop-pred-preserved
loop-pred-preserved c = grind (arith, common_steps)

pub returns : goal.returns
returns c = grind (arith, common_steps)
