use Rattle.std.proofs.Common.{length}
use Rattle.md_modes.proofs.declarations.+have_pairs.Given as goal

abbrev pub decreases-have_pairs : goal.decreases-have_pairs
decreases-have_pairs l = length l.args.now
