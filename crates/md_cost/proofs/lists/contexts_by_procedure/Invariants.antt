use Rattle.std.proofs.Common.{◌≡◌, take}
use Rattle.md_cost.proofs.lists.contexts_by_procedure.Given as goal

abbrev pub invariant-loop-node : goal.invariant-loop-node
invariant-loop-node l = l.procedures.items ≡ take l.node-index l.nodes
