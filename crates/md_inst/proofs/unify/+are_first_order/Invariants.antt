use Rattle.std.proofs.Common.{length}
use Rattle.md_inst.proofs.unify.+are_first_order.Given as goal

abbrev pub decreases-are_first_order : goal.decreases-are_first_order
decreases-are_first_order l = length l.args.now
