use Rattle.std.proofs.Common.{◌≡◌, ◌++◌, map, take}
use Rattle.md_cost.specs.FileView.{IsFileView}
use Rattle.md_cost.specs.View.{View}
use Rattle.md_query.specs.PageOf.{of_row}
use Rattle.md_query.proofs.listing.push_contexts.Given as goal

abbrev pub invariant-loop-node : goal.invariant-loop-node
invariant-loop-node l = (v : View) → IsFileView l.loaded.profile v → l.rows.items ≡ l.fn.rows.items ++ map (of_row v) (take l.node-index l.nodes)
