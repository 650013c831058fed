use Rattle.std.proofs.Common.{length}
use Rattle.md_inst.proofs.closure.+modes_are.Given as goal

abbrev pub decreases-modes_are : goal.decreases-modes_are
decreases-modes_are l = length l.modes.now
