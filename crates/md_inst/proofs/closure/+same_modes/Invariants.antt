use Rattle.std.proofs.Common.{length}
use Rattle.md_inst.proofs.closure.+same_modes.Given as goal

abbrev pub decreases-same_modes : goal.decreases-same_modes
decreases-same_modes l = length l.a.now
