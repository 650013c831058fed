use Rattle.std.proofs.Common.{arith}
use Rattle.std.proofs.lemmas.Grind.{common_steps}
use Rattle.md_clique.proofs.search.close_nodes.Goals as goal

pub loop-node-init : goal.loop-node-init
loop-node-init c = grind (arith, common_steps)

pub loop-node-smaller : goal.loop-node-smaller
loop-node-smaller c = grind (arith, common_steps)

pub returns-clause-closed : goal.returns-clause-closed
returns-clause-closed c = grind (arith, common_steps)

pub returns-clause-others : goal.returns-clause-others
returns-clause-others c = grind (arith, common_steps)
