use Rattle.std.proofs.Common.{arith}
use Rattle.std.proofs.lemmas.Grind.{common_steps}
use Rattle.md_plain.proofs.switch.+arm_for.Goals as goal

pub returns-else-branch : goal.returns-else-branch
returns-else-branch t c = grind (arith, common_steps)

pub returns-in-empty : goal.returns-in-empty
returns-in-empty t c = grind (arith, common_steps)

pub returns-in-empty-arms : goal.returns-in-empty-arms
returns-in-empty-arms t c = grind (arith, common_steps)

pub returns-then-branch : goal.returns-then-branch
returns-then-branch t c = grind (arith, common_steps)
