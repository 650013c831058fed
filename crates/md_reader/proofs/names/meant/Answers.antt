use Rattle.std.proofs.Common.{arith}
use Rattle.std.proofs.lemmas.Grind.{common_steps}
use Rattle.md_reader.proofs.names.meant.Goals as goal

pub returns-in-None : goal.returns-in-None
returns-in-None c = grind (arith, common_steps)

pub returns-in-Some : goal.returns-in-Some
returns-in-Some c = grind (arith, common_steps)

pub returns-in_ok-name_of-in-Some-2 : goal.returns-in_ok-name_of-in-Some-2
returns-in_ok-name_of-in-Some-2 c = grind (arith, common_steps)
