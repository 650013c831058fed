use Rattle.std.proofs.Common.{arith}
use Rattle.std.proofs.lemmas.Grind.{common_steps}
use Rattle.md_inst.proofs.argument.input.Goals as goal

pub returns-in-Free : goal.returns-in-Free
returns-in-Free c = grind (arith, common_steps)

pub returns-then-is_spent : goal.returns-then-is_spent
returns-then-is_spent c = grind (arith, common_steps)

pub returns-then-is_same : goal.returns-then-is_same
returns-then-is_same c = grind (arith, common_steps)

pub returns-else-is_same : goal.returns-else-is_same
returns-else-is_same c = grind (arith, common_steps)
