use Rattle.std.proofs.Common.{length}
use Rattle.md_plain.proofs.runner.+find_main.Given as goal

abbrev pub decreases-find_main : goal.decreases-find_main
decreases-find_main l = length l.preds.now
