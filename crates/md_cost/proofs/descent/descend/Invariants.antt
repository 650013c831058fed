use Rattle.std.proofs.Common.{map}
use Rattle.md_cost.specs.Paths.{start_of}
use Rattle.md_cost.specs.Walking.{above, at_bound}
use Rattle.md_cost.proofs.ThreadSteps.{Threaded, Upped}
use Rattle.md_cost.proofs.descent.descend.Given as goal

abbrev pub invariant-loop-node : goal.invariant-loop-node
invariant-loop-node l = record {
  threads : Threaded l.nodes (above l.tree.cliques (start_of l.links l.tree.entries.items)) l.node (map at_bound l.first.items) (map at_bound l.next.items);
  ups : Upped l.nodes (above l.tree.cliques (start_of l.links l.tree.entries.items)) l.node l.up.items;
}
