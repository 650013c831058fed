use Rattle.std.proofs.Common.{arith}
use Rattle.std.proofs.lemmas.Grind.{common_steps}
use Rattle.md_query.proofs.pair.number_in.Goals as goal

pub returns-in-Some-clause-number : goal.returns-in-Some-clause-number
returns-in-Some-clause-number c = grind (arith, common_steps)

pub returns-in-Some-clause-plain : goal.returns-in-Some-clause-plain
returns-in-Some-clause-plain c = grind (arith, common_steps)

pub returns-in-None-clause-number : goal.returns-in-None-clause-number
returns-in-None-clause-number c = grind (arith, common_steps)

pub returns-in-None-clause-plain : goal.returns-in-None-clause-plain
returns-in-None-clause-plain c = grind (arith, common_steps)
