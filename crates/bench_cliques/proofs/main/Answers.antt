use Rattle.std.proofs.Common.{arith}
use Rattle.std.proofs.lemmas.Grind.{common_steps}
use Rattle.bench_cliques.proofs.main.Goals as goal

pub returns : goal.returns
returns c = grind (arith, common_steps)

pub returns-in_default : goal.returns-in_default
returns-in_default c = grind (arith, common_steps)

pub returns-in_default-cliques : goal.returns-in_default-cliques
returns-in_default-cliques c = grind (arith, common_steps)

pub returns-then-nodes-eq0 : goal.returns-then-nodes-eq0
returns-then-nodes-eq0 c = grind (arith, common_steps)
