use Rattle.std.proofs.Common.{arith}
use Rattle.std.proofs.lemmas.Grind.{common_steps}
use Rattle.md_plain.proofs.simple.+take_apart.Goals as goal

pub returns-else-not-found : goal.returns-else-not-found
returns-else-not-found t c = grind (arith, common_steps)

pub returns-in-Nothing : goal.returns-in-Nothing
returns-in-Nothing t c = grind (arith, common_steps)

pub returns-in-empty : goal.returns-in-empty
returns-in-empty t c = grind (arith, common_steps)

pub returns-in_ok-new-in-None : goal.returns-in_ok-new-in-None
returns-in_ok-new-in-None t c = grind (arith, common_steps)

pub returns-then-not-found : goal.returns-then-not-found
returns-then-not-found t c = grind (arith, common_steps)
