use Rattle.std.proofs.Common.{length}
use Rattle.md_plain.proofs.env.+passed.Given as goal

abbrev pub decreases-passed : goal.decreases-passed
decreases-passed l = length l.pairs.now
