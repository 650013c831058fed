use Rattle.md_cost.proofs.OwnSteps.{Owning}
use Rattle.md_cost.proofs.own.own_sums.Given as goal

abbrev pub invariant-loop-node : goal.invariant-loop-node
invariant-loop-node l = Owning l.links l.node l.sums.items
