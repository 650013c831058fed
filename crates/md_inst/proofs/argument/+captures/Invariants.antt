use Rattle.std.proofs.Common.{length}
use Rattle.md_inst.proofs.argument.+captures.Given as goal

abbrev pub decreases-captures : goal.decreases-captures
decreases-captures l = length l.args.now
