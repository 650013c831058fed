use Rattle.std.proofs.Common.{length}
use Rattle.md_inst.proofs.closure.+are_modes.Given as goal

abbrev pub decreases-are_modes : goal.decreases-are_modes
decreases-are_modes l = length l.args.now
