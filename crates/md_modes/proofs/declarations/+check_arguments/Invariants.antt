use Rattle.std.proofs.Common.{length}
use Rattle.md_modes.proofs.declarations.+check_arguments.Given as goal

abbrev pub decreases-check_arguments : goal.decreases-check_arguments
decreases-check_arguments l = length l.args.now
