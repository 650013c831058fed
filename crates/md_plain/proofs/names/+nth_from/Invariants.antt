use Rattle.std.proofs.Common.{length}
use Rattle.md_plain.proofs.names.+nth_from.Given as goal

abbrev pub decreases-nth_from : goal.decreases-nth_from
decreases-nth_from l = length l.preds.now
