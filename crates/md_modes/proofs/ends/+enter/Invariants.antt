use Rattle.std.proofs.Common.{length}
use Rattle.md_modes.proofs.ends.+enter.Given as goal

abbrev pub decreases-enter : goal.decreases-enter
decreases-enter l = length l.args.now
