use Rattle.std.proofs.Common.{length}
use Rattle.md_plain.proofs.env.+back.Given as goal

abbrev pub decreases-back : goal.decreases-back
decreases-back l = length l.pairs.now
