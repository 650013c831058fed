use Rattle.std.proofs.Common.{length}
use Rattle.md_modes.proofs.ends.+check_exits.Given as goal

abbrev pub decreases-check_exits : goal.decreases-check_exits
decreases-check_exits l = length l.args.now
