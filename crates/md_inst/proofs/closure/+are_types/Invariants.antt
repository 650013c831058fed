use Rattle.std.proofs.Common.{length}
use Rattle.md_inst.proofs.closure.+are_types.Given as goal

abbrev pub decreases-are_types : goal.decreases-are_types
decreases-are_types l = length l.args.now
