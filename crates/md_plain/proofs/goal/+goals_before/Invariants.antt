use Rattle.std.proofs.Common.{length}
use Rattle.md_plain.proofs.goal.+goals_before.Given as goal

abbrev pub decreases-goals_before : goal.decreases-goals_before
decreases-goals_before l = length l.preds.now
