-- for speed: the search comes to this last (tools/answers/speed.py)
use Rattle.std.proofs.Common.{arith}
use Rattle.std.proofs.lemmas.Grind.{common_steps}
use Rattle.test_memory.proofs.link.give_rest.Goals as goal

pub returns-clause-count : goal.returns-clause-count
returns-clause-count c = grind (arith, common_steps)

pub returns-clause-gives : goal.returns-clause-gives
returns-clause-gives c = grind (arith, common_steps)
