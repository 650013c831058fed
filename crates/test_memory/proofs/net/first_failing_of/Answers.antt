use Rattle.test_memory.specs.Memory.{IsFreshFailingLink}
use Rattle.test_memory.proofs.Stored.{All-rest}
use Rattle.test_memory.proofs.net.first_failing_of.Goals as goal
use Rattle.std.proofs.Common.{arith}
use Rattle.std.proofs.lemmas.Grind.{common_steps}

pub returns-clause-stays : goal.returns-clause-stays
returns-clause-stays c = All-rest IsFreshFailingLink c.next.result _ _ c.next.ensures.items c.requires

pub returns-clause-first : goal.returns-clause-first
returns-clause-first c = grind (arith, common_steps)

pub returns-clause-none : goal.returns-clause-none
returns-clause-none c = grind (arith, common_steps)

pub returns-clause-none_left : goal.returns-clause-none_left
returns-clause-none_left c = grind (arith, common_steps)
