use Rattle.md_cost.proofs.IncomingSteps.{Adding}
use Rattle.md_cost.proofs.incoming.own_sum.Given as goal

abbrev pub invariant-loop-bound : goal.invariant-loop-bound
invariant-loop-bound l = Adding l.links l.node l.sum l.bound

abbrev pub decreases-loop-bound : goal.decreases-loop-bound
decreases-loop-bound l = l.bound
