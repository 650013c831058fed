use Rattle.std.proofs.Common.{arith}
use Rattle.std.proofs.lemmas.Grind.{common_steps}
use Rattle.md_inst.proofs.argument.output.Goals as goal

pub returns-then-is_bound : goal.returns-then-is_bound
returns-then-is_bound c = grind (arith, common_steps)

pub returns-then-at : goal.returns-then-at
returns-then-at c = grind (arith, common_steps)

pub returns : goal.returns
returns c = grind (arith, common_steps)
