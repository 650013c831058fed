use Rattle.std.proofs.Common.{arith}
use Rattle.std.proofs.lemmas.Grind.{common_steps}
use Rattle.md_render.proofs.lookup.clique_at.Goals as goal

pub returns-else-number-nodes : goal.returns-else-number-nodes
returns-else-number-nodes c = grind (arith, common_steps)

pub returns-then-number-nodes : goal.returns-then-number-nodes
returns-then-number-nodes c = grind (arith, common_steps)
