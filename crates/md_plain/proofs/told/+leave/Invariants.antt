use Rattle.std.proofs.Common.{length}
use Rattle.md_plain.proofs.told.+leave.Given as goal

abbrev pub decreases-leave : goal.decreases-leave
decreases-leave l = length l.frames.now
