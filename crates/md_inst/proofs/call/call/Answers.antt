use Rattle.std.proofs.Common.{arith}
use Rattle.std.proofs.lemmas.Grind.{common_steps}
use Rattle.md_inst.proofs.call.call.Goals as goal

pub returns-in_default : goal.returns-in_default
returns-in_default c = grind (arith, common_steps)

pub returns-then-places-arity : goal.returns-then-places-arity
returns-then-places-arity c = grind (arith, common_steps)

pub returns : goal.returns
returns c = grind (arith, common_steps)
