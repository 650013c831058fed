use Rattle.std.proofs.Common.{length}
use Rattle.md_plain.proofs.goal.+numbered_from.Given as goal

abbrev pub decreases-numbered_from : goal.decreases-numbered_from
decreases-numbered_from l = length l.goals.now
