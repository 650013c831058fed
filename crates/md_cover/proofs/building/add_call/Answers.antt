use Rattle.std.proofs.Common.{arith}
use Rattle.std.proofs.lemmas.Grind.{common_steps}
use Rattle.md_cover.proofs.building.add_call.Goals as goal

pub returns-clause-equations : goal.returns-clause-equations
returns-clause-equations c = grind (arith, common_steps)

pub returns-clause-next : goal.returns-clause-next
returns-clause-next c = grind (arith, common_steps)
