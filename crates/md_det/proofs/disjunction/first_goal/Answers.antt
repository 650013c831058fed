use Rattle.std.proofs.Common.{arith}
use Rattle.std.proofs.lemmas.Grind.{common_steps}
use Rattle.md_det.proofs.disjunction.first_goal.Goals as goal

pub returns-in-Conj : goal.returns-in-Conj
returns-in-Conj c = grind (arith, common_steps)

pub returns-in-None : goal.returns-in-None
returns-in-None c = grind (arith, common_steps)
