use Rattle.std.proofs.Common.{◌≡◌, ◌≤◌, ◌*◌, ◌^◌, take}
use Rattle.std.specs.List.{sum_by}
use Rattle.md_cost.specs.FileView.{IsFileView}
use Rattle.md_cost.specs.View.{View, OfContext}
use Rattle.md_people.specs.Counts.{own_counts}
use Rattle.md_tree.proofs.row.clique_own.Given as goal

abbrev pub invariant-loop-node : goal.invariant-loop-node
invariant-loop-node l = record {
  small : l.sum ≤ l.node-index * 2 ^ 64;
  view : (v : View) → IsFileView l.loaded.profile v → l.sum ≡ sum_by (λ c. own_counts v (OfContext c) l.by) (take l.node-index l.node-items);
}
