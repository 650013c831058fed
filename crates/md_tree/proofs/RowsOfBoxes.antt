-- Each box has its row: boxes and rows are made clique by clique in the same way.
use Rattle.std.proofs.Common.{ℕ, zero, suc, ◌+◌, ◌<◌, List, [], ◌∷◌, ◌++◌, length, Option, Some, None, subst, arith}
use Rattle.std.specs.List.{flat_map, sum_by}
use Rattle.std.proofs.lemmas.Bool.{ne_eqb}
use Rattle.std.proofs.lemmas.List.{append-nil}
use Rattle.md_base.specs.declared.measure.Measure.{Measure}
use Rattle.md_clique.specs.Cliques.{clique_count}
use Rattle.md_cost.specs.View.{View}
use Rattle.md_table.specs.Table.{LineCells}
use Rattle.md_people.specs.Counts.{whole_of}
use Rattle.md_people.specs.Tree.{clique_total, hidden_children, more_rows, rows_from, shown_children, tree_table}
use Rattle.md_tree.specs.declared.picture.CliqueBox.{CliqueBox}
use Rattle.md_tree.specs.Picture.{AreRowsOf, no_rows, of_box, of_others, boxes_beside, boxes_from, picture, width_of}
use Rattle.md_tree.proofs.Boxes.{box_of}

module _ (v : View) (by : Measure) where
  joined : {firsts bs : List CliqueBox} {xs ys : List LineCells} → AreRowsOf v by firsts xs → AreRowsOf v by bs ys → AreRowsOf v by (firsts ++ bs) (xs ++ ys)
  joined no_rows others = others
  joined {bs = bs} {ys = ys} (of_box b firsts xs rest) others = of_box b (firsts ++ bs) (xs ++ ys) (joined rest others)
  joined {bs = bs} {ys = ys} (of_others level n sum firsts xs rest) others = of_others level n sum (firsts ++ bs) (xs ++ ys) (joined rest others)

  more_alone : (level : ℕ) (ks : List ℕ) → AreRowsOf v by [] (more_rows v by level ks)
  more_alone level [] = no_rows
  more_alone level (k ∷ ks) = of_others level (length (k ∷ ks)) (sum_by (clique_total v by) (k ∷ ks)) [] [] no_rows

  side_by_side : (boxes : (left place k : ℕ) → List CliqueBox) (rows : ℕ → List LineCells) → ((left place k : ℕ) → AreRowsOf v by (boxes left place k) (rows k)) → (left place : ℕ) (ks : List ℕ)
      → AreRowsOf v by (boxes_beside (width_of v by) boxes left place ks) (flat_map rows ks)
  side_by_side boxes rows are left place [] = no_rows
  side_by_side boxes rows are left place (k ∷ ks) = joined (are left place k) (side_by_side boxes rows are (left + width_of v by k) (place + length (boxes left place k)) ks)

  rows_of_boxes : (least n level : ℕ) (parent : Option ℕ) (left place k : ℕ) → AreRowsOf v by (boxes_from v by least n level parent left place k) (rows_from v by least n level k)
  rows_of_boxes least zero level parent left place k = no_rows
  rows_of_boxes least (suc n) level parent left place k =
      let boxes = boxes_beside (width_of v by) (boxes_from v by least n (suc level) (Some place)) left (place + 1) (shown_children v by least k) in
      let rows = flat_map (rows_from v by least n (suc level)) (shown_children v by least k) ++ more_rows v by (suc level) (hidden_children v by least k) in
      let below = side_by_side (boxes_from v by least n (suc level) (Some place)) (rows_from v by least n (suc level)) (rows_of_boxes least n (suc level) (Some place)) left (place + 1) (shown_children v by least k) in
      of_box (box_of v by level parent left k) boxes rows (subst (λ (bs : List CliqueBox). AreRowsOf v by bs rows) (append-nil boxes) (joined below (more_alone (suc level) (hidden_children v by least k))))

pub boxes_have_rows : (v : View) (by : Measure) (least : ℕ) → 0 < whole_of v by → AreRowsOf v by (picture v by least) (tree_table v by least).rows
boxes_have_rows v by least some = rw (ne_eqb (whole_of v by) 0 (λ e. absurd (omega arith))) (rows_of_boxes v by least (clique_count v.cliques) 0 None 0 0 0)
