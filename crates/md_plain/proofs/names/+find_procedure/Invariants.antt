use Rattle.std.proofs.Common.{length}
use Rattle.md_plain.proofs.names.+find_procedure.Given as goal

abbrev pub decreases-find_procedure : goal.decreases-find_procedure
decreases-find_procedure l = length l.preds.now
