use Rattle.std.proofs.Common.{length}
use Rattle.md_inst.proofs.argument.+inputs.Given as goal

abbrev pub decreases-inputs : goal.decreases-inputs
decreases-inputs l = length l.types.now
