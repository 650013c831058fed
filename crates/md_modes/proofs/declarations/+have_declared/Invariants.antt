use Rattle.std.proofs.Common.{length}
use Rattle.md_modes.proofs.declarations.+have_declared.Given as goal

abbrev pub decreases-have_declared : goal.decreases-have_declared
decreases-have_declared l = length l.args.now
