use Rattle.std.proofs.Common.{◌≡◌, ◌++◌}
use Rattle.std.specs.Prelude.{All}
use Rattle.md_clique.specs.Cliques.{clique_count}
use Rattle.md_cost.specs.FileView.{IsFileView}
use Rattle.md_cost.specs.View.{View}
use Rattle.md_people.specs.Tree.{rows_from}
use Rattle.md_tree.specs.Branches.{IsBranch, open_rows, open_work}
use Rattle.md_tree.proofs.tree.push_rows.Given as goal

-- the rows so far, and those of the branches under way
abbrev pub invariant-loop-branch : goal.invariant-loop-branch
invariant-loop-branch l = record {
  rows : (v : View) → IsFileView l.loaded.profile v → l.rows.ended ++ open_rows v l.scale.by l.scale.least l.children l.branches.items ≡ l.fn.rows.ended ++ rows_from v l.scale.by l.scale.least (clique_count v.cliques) 0 0;
  branches : All (IsBranch (clique_count l.loaded.cliques) l.children) l.branches.items;
}

abbrev pub decreases-loop-branch : goal.decreases-loop-branch
decreases-loop-branch l = open_work l.children (clique_count l.loaded.cliques) l.branches.items
