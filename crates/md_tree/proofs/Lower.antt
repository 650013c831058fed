-- In the tree of a view of a valid profile a child has a higher number than its parent.
use Rattle.std.proofs.Common.{◌≡◌, ℕ, ◌<◌, true, ◌&&◌, Bool, false, ltb, eqb, get_or, refl, arith}
use Rattle.std.specs.List.{filter, range_with_len}
use Rattle.std.proofs.lemmas.Bool.{eqb-true, ltb-true, and_parts}
use Rattle.std.proofs.lemmas.List.Elements.{All-filter, filter_passes}
use Rattle.md_base.specs.declared.measure.Measure.{Measure}
use Rattle.md_dynamic.specs.Profile.{ProfileRows}
use Rattle.md_dynamic.specs.Valid.{IsValid}
use Rattle.md_clique.specs.Cliques.{clique_count}
use Rattle.md_cost.specs.FileView.{IsFileView}
use Rattle.md_cost.specs.View.{View}
use Rattle.md_cost.proofs.ValidSteps.{valid_sound}
use Rattle.md_people.specs.Tree.{clique_total, is_child, parent_of}
use Rattle.md_people.proofs.Orders.{all_ranked}
use Rattle.md_people.proofs.Ranges.{range_there}
use Rattle.md_people.proofs.StationSteps.{start_lower}
use Rattle.md_tree.proofs.Parents.{parent_told}
use Rattle.md_tree.proofs.Rows.{AreLower}

module _ (f : ProfileRows) (valid : IsValid f) (v : View) (viewed : IsFileView f v) (by : Measure) (least : ℕ) where
  parent_lower : (k j : ℕ) → j < clique_count v.cliques → is_child v k j ≡ true → (k < j) × (j < clique_count v.cliques)
  parent_lower k j lt is =
      let both = and_parts (ltb 0 j) (eqb (parent_of v j) k) is in
      let some = ltb-true 0 j both.0 in
      let its = eqb-true (parent_of v j) k both.1 in
      let sound = (valid_sound f valid).links in
      let low = start_lower f sound v.cliques v.entries viewed.tree j some lt in
      let told = parent_told f sound v.cliques v.entries viewed.tree v viewed j in
      (omega arith, lt)

  pub view_lower : AreLower v by least
  view_lower k lt =
      let all = range_with_len 0 (clique_count v.cliques) in
      all_ranked (clique_total v by) (λ (j : ℕ). (k < j) × (j < clique_count v.cliques)) (filter (is_child v k) all) (λ i d there.
      parent_lower k (get_or (filter (is_child v k) all) i d)
      (All-filter (is_child v k) (λ (j : ℕ). j < clique_count v.cliques) all (range_there (clique_count v.cliques)) i d there)
      (filter_passes (is_child v k) all i d there))
