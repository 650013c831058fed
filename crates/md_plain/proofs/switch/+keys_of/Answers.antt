use Rattle.std.proofs.Common.{arith}
use Rattle.std.proofs.lemmas.Grind.{common_steps}
use Rattle.md_plain.proofs.switch.+keys_of.Goals as goal

pub returns-in-None : goal.returns-in-None
returns-in-None t c = grind (arith, common_steps)

pub returns-in-empty : goal.returns-in-empty
returns-in-empty t c = grind (arith, common_steps)

pub returns-in_ok-keys_of-in-Some : goal.returns-in_ok-keys_of-in-Some
returns-in_ok-keys_of-in-Some t c = grind (arith, common_steps)
