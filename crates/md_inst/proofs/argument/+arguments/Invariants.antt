use Rattle.std.proofs.Common.{length}
use Rattle.md_inst.proofs.argument.+arguments.Given as goal

abbrev pub decreases-arguments : goal.decreases-arguments
decreases-arguments l = length l.args.now
