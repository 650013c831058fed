use Rattle.std.proofs.Common.{arith}
use Rattle.std.proofs.lemmas.Grind.{common_steps}
use Rattle.md_plain.proofs.simple.write.Goals as goal

pub returns-in-None : goal.returns-in-None
returns-in-None c = grind (arith, common_steps)

pub returns-in-Some-value_at : goal.returns-in-Some-value_at
returns-in-Some-value_at c = grind (arith, common_steps)

pub returns-in_ok-new-in-None-value_at : goal.returns-in_ok-new-in-None-value_at
returns-in_ok-new-in-None-value_at c = grind (arith, common_steps)
