use Rattle.std.proofs.Common.{arith}
use Rattle.std.proofs.lemmas.Grind.{common_steps}
use Rattle.md_plain.proofs.simple.write_int.Goals as goal

pub returns-in-Some-Literal : goal.returns-in-Some-Literal
returns-in-Some-Literal c = grind (arith, common_steps)

pub returns-in_ok-digits-in-Some-Number : goal.returns-in_ok-digits-in-Some-Number
returns-in_ok-digits-in-Some-Number c = grind (arith, common_steps)
