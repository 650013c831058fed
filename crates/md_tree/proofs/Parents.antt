-- The parent of a clique.
use Rattle.std.proofs.Common.{◌≡◌, ℕ, List, length, get_or, ap, ◌∙◌}
use Rattle.md_dynamic.specs.Profile.{ProfileRows}
use Rattle.md_cost.specs.FileView.{IsFileView}
use Rattle.md_cost.specs.Paths.{start_of}
use Rattle.md_cost.specs.Sound.{AreSound}
use Rattle.md_cost.specs.Tree.{IsTree}
use Rattle.md_cost.specs.View.{View}
use Rattle.md_people.specs.Context.{entered_from}
use Rattle.md_people.specs.Tree.{parent_of}
use Rattle.md_people.proofs.StationSteps.{clique_told, entered_told}

module _ (f : ProfileRows) (sound : AreSound (length f.nodes) f.links) (cliques found : List ℕ) (tree : IsTree (length f.nodes) f.links cliques found) (v : View) (viewed : IsFileView f v) where
  pub parent_told : (k : ℕ) → parent_of v k ≡ get_or cliques (start_of f.links found k) 0
  parent_told k = clique_told f sound cliques found tree v viewed (entered_from v k) ∙ ap (λ (c : ℕ). get_or cliques c 0) (entered_told f sound cliques found tree v viewed k)
