use Rattle.std.proofs.Common.{length}
use Rattle.md_inst.proofs.closure.+types_are.Given as goal

abbrev pub decreases-types_are : goal.decreases-types_are
decreases-types_are l = length l.types.now
