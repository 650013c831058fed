use Rattle.std.proofs.Common.{All}
use Rattle.test_memory.specs.Memory.{IsFreshFailingLink}
use Rattle.test_commands.proofs.net.links_of.Given as goal

abbrev pub invariant-loop-request : goal.invariant-loop-request
invariant-loop-request l = All IsFreshFailingLink l.coming.items
