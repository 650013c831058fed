-- The boxes of a picture don't depend on how many steps down are allowed, where these are enough.
use Rattle.std.proofs.Common.{◌≡◌, ℕ, zero, suc, ◌+◌, ◌<◌, ◌≤◌, List, [], ◌∷◌, ◌++◌, length, Option, Some, refl, ap, ◌∙◌, arith}
use Rattle.std.specs.Prelude.{All}
use Rattle.std.proofs.lemmas.List.Elements.{All-filter, All-head, All-tail, All-weaker}
use Rattle.md_base.specs.declared.measure.Measure.{Measure}
use Rattle.md_clique.specs.Cliques.{clique_count}
use Rattle.md_cost.specs.View.{View}
use Rattle.md_people.specs.Tree.{children, is_shown, shown_children}
use Rattle.md_tree.specs.declared.picture.CliqueBox.{CliqueBox}
use Rattle.md_tree.specs.Picture.{boxes_beside, boxes_from, width_of}
use Rattle.md_tree.proofs.Rows.{AreLower}

abbrev pub Draw : Type 0
Draw = (left place clique : ℕ) → List CliqueBox

abbrev DrawAlike : Draw → Draw → ℕ → Type 0
DrawAlike f g k = (left place : ℕ) → f left place k ≡ g left place k

beside_same : (width : ℕ → ℕ) (f g : Draw) (left place : ℕ) (ks : List ℕ) → All (DrawAlike f g) ks → boxes_beside width f left place ks ≡ boxes_beside width g left place ks
beside_same width f g left place [] all = refl
beside_same width f g left place (k ∷ ks) all =
    ap (λ (bs : List CliqueBox). bs ++ boxes_beside width f (left + width k) (place + length bs) ks) (All-head (DrawAlike f g) k ks all left place)
    ∙ ap (λ (bs : List CliqueBox). g left place k ++ bs) (beside_same width f g (left + width k) (place + length (g left place k)) ks (All-tail (DrawAlike f g) k ks all))

-- the box of a clique
abbrev pub box_of : View → Measure → (level : ℕ) → (parent : Option ℕ) → (left clique : ℕ) → CliqueBox
box_of v by level parent left k = record { clique = k; level = level; parent = parent; left = left; width = width_of v by k }

module _ (v : View) (by : Measure) (least : ℕ) (lower : AreLower v by least) where
  boxes_same : (n m level : ℕ) (parent : Option ℕ) (left place k : ℕ) → k < clique_count v.cliques → clique_count v.cliques ≤ n + k → clique_count v.cliques ≤ m + k
      → boxes_from v by least n level parent left place k ≡ boxes_from v by least m level parent left place k
  boxes_same zero m level parent left place k lt le also = absurd (omega arith)
  boxes_same (suc n) zero level parent left place k lt le also = absurd (omega arith)
  boxes_same (suc n) (suc m) level parent left place k lt le also =
      let f = boxes_from v by least n (suc level) (Some place) in
      let g = boxes_from v by least m (suc level) (Some place) in
      ap (λ (bs : List CliqueBox). box_of v by level parent left k ∷ bs) (
      beside_same (width_of v by) f g left (place + 1) (shown_children v by least k)
      (All-filter (is_shown v by least) (DrawAlike f g) (children v by k)
      (All-weaker (λ (j : ℕ). (k < j) × (j < clique_count v.cliques)) (DrawAlike f g)
      (λ j low l p. (let up = low.0 in boxes_same n m (suc level) (Some place) l p j low.1 (omega arith) (omega arith))) (children v by k) (lower k lt))))

  pub boxes_below : (level : ℕ) (parent : Option ℕ) (left place k : ℕ) → k < clique_count v.cliques
      → boxes_from v by least (clique_count v.cliques) level parent left place k
      ≡ box_of v by level parent left k ∷ boxes_beside (width_of v by) (boxes_from v by least (clique_count v.cliques) (level + 1) (Some place)) left (place + 1) (shown_children v by least k)
  boxes_below level parent left place k lt =
      let next : suc level ≡ level + 1 = omega arith in
      boxes_same (clique_count v.cliques) (suc (clique_count v.cliques)) level parent left place k lt (omega arith) (omega arith)
      ∙ ap (λ (up : ℕ). box_of v by level parent left k ∷ boxes_beside (width_of v by) (boxes_from v by least (clique_count v.cliques) up (Some place)) left (place + 1) (shown_children v by least k)) next
