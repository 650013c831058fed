use Rattle.std.proofs.Common.{arith}
use Rattle.std.proofs.lemmas.Grind.{common_steps}
use Rattle.md_cost.proofs.propagating.propagate.Goals as goal

pub returns-clause-loaded : goal.returns-clause-loaded
returns-clause-loaded c = grind (arith, common_steps)

pub returns-clause-two : goal.returns-clause-two
returns-clause-two c = grind (arith, common_steps)
