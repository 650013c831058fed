use Rattle.std.proofs.Common.{length}
use Rattle.md_inst.proofs.closure.+have_same_modes.Given as goal

abbrev pub decreases-have_same_modes : goal.decreases-have_same_modes
decreases-have_same_modes l = length l.a.now
