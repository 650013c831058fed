-- The boxes of a picture are those of cliques that there are.
use Rattle.std.proofs.Common.{ℕ, zero, suc, ◌+◌, ◌<◌, List, [], ◌∷◌, length, Option, Some}
use Rattle.std.specs.Prelude.{All}
use Rattle.std.specs.List.{filter, range_with_len}
use Rattle.std.proofs.lemmas.List.Elements.{All-append, All-cons, All-filter, All-head, All-nil, All-tail, All-weaker}
use Rattle.md_base.specs.declared.measure.Measure.{Measure}
use Rattle.md_clique.specs.Cliques.{clique_count}
use Rattle.md_cost.specs.View.{View}
use Rattle.md_people.specs.Tree.{children, clique_total, is_child, is_shown, shown_children}
use Rattle.md_people.proofs.Orders.{all_ranked}
use Rattle.md_people.proofs.Ranges.{range_there}
use Rattle.md_tree.specs.declared.picture.CliqueBox.{CliqueBox}
use Rattle.md_tree.specs.Picture.{boxes_beside, boxes_from, width_of}
use Rattle.md_tree.proofs.Boxes.{Draw, box_of}

module _ (v : View) (by : Measure) (least : ℕ) where
  abbrev IsThere : CliqueBox → Type 0
  IsThere b = b.clique < clique_count v.cliques

  -- the boxes that are drawn for a clique, wherever they stand
  abbrev AreThere : Draw → ℕ → Type 0
  AreThere f k = (left place : ℕ) → All IsThere (f left place k)

  beside_there : (width : ℕ → ℕ) (f : Draw) (left place : ℕ) (ks : List ℕ) → All (AreThere f) ks → All IsThere (boxes_beside width f left place ks)
  beside_there width f left place [] all = All-nil IsThere
  beside_there width f left place (k ∷ ks) all =
      All-append IsThere (f left place k) (boxes_beside width f (left + width k) (place + length (f left place k)) ks)
      (All-head (AreThere f) k ks all left place)
      (beside_there width f (left + width k) (place + length (f left place k)) ks (All-tail (AreThere f) k ks all))

  children_there : (k : ℕ) → All (λ (j : ℕ). j < clique_count v.cliques) (shown_children v by least k)
  children_there k =
      let all = range_with_len 0 (clique_count v.cliques) in
      All-filter (is_shown v by least) (λ (j : ℕ). j < clique_count v.cliques) (children v by k)
      (all_ranked (clique_total v by) (λ (j : ℕ). j < clique_count v.cliques) (filter (is_child v k) all)
      (All-filter (is_child v k) (λ (j : ℕ). j < clique_count v.cliques) all (range_there (clique_count v.cliques))))

  pub from_there : (n level : ℕ) (parent : Option ℕ) (left place k : ℕ) → k < clique_count v.cliques → All IsThere (boxes_from v by least n level parent left place k)
  from_there zero level parent left place k lt = All-nil IsThere
  from_there (suc n) level parent left place k lt =
      let f = boxes_from v by least n (suc level) (Some place) in
      All-cons IsThere (box_of v by level parent left k) (boxes_beside (width_of v by) f left (place + 1) (shown_children v by least k)) lt
      (beside_there (width_of v by) f left (place + 1) (shown_children v by least k)
      (All-weaker (λ (j : ℕ). j < clique_count v.cliques) (AreThere f) (λ j there l p. from_there n (suc level) (Some place) l p j there) (shown_children v by least k) (children_there k)))
