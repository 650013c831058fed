use Rattle.test_memory.specs.Memory.{IsFreshLink}
use Rattle.test_memory.proofs.Stored.{All-rest}
use Rattle.test_memory.proofs.net.first_of.Goals as goal

pub returns-clause-stays : goal.returns-clause-stays
returns-clause-stays c = All-rest IsFreshLink c.next.result _ _ c.next.ensures.items c.requires
