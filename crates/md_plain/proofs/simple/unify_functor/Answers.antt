use Rattle.std.proofs.Common.{arith}
use Rattle.std.proofs.lemmas.Grind.{common_steps}
use Rattle.md_plain.proofs.simple.unify_functor.Goals as goal

pub returns-else-eq : goal.returns-else-eq
returns-else-eq c = grind (arith, common_steps)

pub returns-in-None : goal.returns-in-None
returns-in-None c = grind (arith, common_steps)

pub returns-in-Some-Number : goal.returns-in-Some-Number
returns-in-Some-Number c = grind (arith, common_steps)

pub returns-then-branch : goal.returns-then-branch
returns-then-branch c = grind (arith, common_steps)
