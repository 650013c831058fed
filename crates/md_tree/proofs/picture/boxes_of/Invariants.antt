use Rattle.std.proofs.Common.{◌≡◌, ◌++◌, length, reverse, None}
use Rattle.std.specs.Prelude.{All}
use Rattle.md_clique.specs.Cliques.{clique_count}
use Rattle.md_cost.specs.FileView.{IsFileView}
use Rattle.md_cost.specs.View.{View}
use Rattle.md_tree.specs.Picture.{boxes_from}
use Rattle.md_tree.specs.Twigs.{Fits, IsTwig, all_work, open_boxes}
use Rattle.md_tree.proofs.picture.boxes_of.Given as goal

-- the boxes so far, and those of the twigs under way
abbrev pub invariant-loop-twig : goal.invariant-loop-twig
invariant-loop-twig l = record {
  boxes : (v : View) → IsFileView l.loaded.profile v → l.boxes.items ++ open_boxes v l.scale.by l.scale.least l.children (length l.boxes.items) (reverse l.twigs.items) ≡ boxes_from v l.scale.by l.scale.least (clique_count v.cliques) 0 None 0 0 0;
  twigs : All (IsTwig (clique_count l.loaded.cliques) l.children) l.twigs.items;
  fit : (v : View) → IsFileView l.loaded.profile v → All (Fits v l.scale.by l.scale.least l.children) l.twigs.items;
}

abbrev pub decreases-loop-twig : goal.decreases-loop-twig
decreases-loop-twig l = all_work l.children (clique_count l.loaded.cliques) l.twigs.items
