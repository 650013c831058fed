use Rattle.std.proofs.Common.{◌≡◌, ◌<◌, ◌-◌, map}
use Rattle.std.specs.Prelude.{All}
use Rattle.std.specs.List.{range_with_len}
use Rattle.md_clique.specs.Cliques.{clique_count}
use Rattle.md_cost.specs.FileView.{IsFileView}
use Rattle.md_cost.specs.View.{View}
use Rattle.md_people.specs.Tree.{clique_total, parent_of}
use Rattle.md_tree.proofs.child.counted.Given as goal

abbrev pub invariant-loop-clique : goal.invariant-loop-clique
invariant-loop-clique l = record {
  cliques : map (λ c. c.2) l.children.items ≡ range_with_len 1 (l.clique - 1);
  lower : All (λ c. (c.0 < c.2) × (c.2 < clique_count l.loaded.cliques)) l.children.items;
  view : (v : View) → IsFileView l.loaded.profile v → All (λ c. (c.0 ≡ parent_of v c.2) × (c.1.0 ≡ clique_total v l.by c.2)) l.children.items;
}
