use Rattle.std.proofs.Common.{length}
use Rattle.md_inst.proofs.argument.+paired_arguments.Given as goal

abbrev pub decreases-paired_arguments : goal.decreases-paired_arguments
decreases-paired_arguments l = length l.types.now
