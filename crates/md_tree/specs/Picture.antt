-- The picture of the cliques as a tree: a box for each clique that has a row, as wide as its part of the whole, below its parent's.
use Rattle.std.specs.Prelude.{ℕ, zero, suc, ◌≡◌, ◌<◌, ◌≤◌, ◌+◌, ◌*◌, ◌/◌, ◌==◌, List, [], ◌∷◌, ◌++◌, length, Option, Some, None, if◌then◌else◌, slice_get}
use Rattle.md_base.specs.declared.measure.Measure.{Measure}
use Rattle.md_clique.specs.Cliques.{clique_count}
use Rattle.md_cost.specs.View.{View}
use Rattle.md_table.specs.Table.{LineCells}
use Rattle.md_people.specs.Counts.{whole_of}
use Rattle.md_people.specs.Tree.{clique_row, clique_total, parent_of, shown_children}
use Rattle.md_tree.specs.declared.picture.CliqueBox.{CliqueBox}
use Rattle.md_tree.specs.Branches.{more_row}

-- a part of the whole in millionths of it, rounded down
abbrev pub millionths : (part whole : ℕ) → ℕ
millionths part whole = 1000000 * part / whole

abbrev pub width_of : View → Measure → ℕ → ℕ
width_of v by k = millionths (clique_total v by k) (whole_of v by)

-- The boxes of cliques that stand side by side from a left edge on, each with all that is below it. The first box has this place in
-- the picture.
abbrev pub boxes_beside : (width : ℕ → ℕ) → (below : (left place clique : ℕ) → List CliqueBox) → (left place : ℕ) → List ℕ → List CliqueBox
boxes_beside width below left place [] = []
boxes_beside width below left place (k ∷ ks) = below left place k ++ boxes_beside width below (left + width k) (place + length (below left place k)) ks

-- The box of a clique, whose parent's box has that place, and all that is below it. Children begin at their parent's left edge.
-- A child has a higher number than its parent, so no way down is longer than the number of cliques.
abbrev pub boxes_from : View → Measure → (least steps level : ℕ) → (parent : Option ℕ) → (left place clique : ℕ) → List CliqueBox
boxes_from v by least zero level parent left place k = []
boxes_from v by least (suc n) level parent left place k =
    record { clique = k; level = level; parent = parent; left = left; width = width_of v by k }
    ∷ boxes_beside (width_of v by) (boxes_from v by least n (suc level) (Some place)) left (place + 1) (shown_children v by least k)

-- in the order of the tree's rows; nothing has a part in a whole of 0
abbrev pub picture : View → Measure → (least : ℕ) → List CliqueBox
picture v by least = if whole_of v by == 0 then [] else boxes_from v by least (clique_count v.cliques) 0 None 0 0 0

-- ---- what holds of the boxes

-- one box lies within the other, a level above it
pub record IsWithin (outer inner : CliqueBox) : Type 0 where
  pub level : inner.level ≡ outer.level + 1
  pub left : outer.left ≤ inner.left
  pub right : inner.left + inner.width ≤ outer.left + outer.width

-- a box lies within that of its clique's parent, which has the place that it says
pub record HasParent (v : View) (bs : List CliqueBox) (b : CliqueBox) : Type 0 where
  pub place : ℕ
  pub outer : CliqueBox
  pub parent : b.parent ≡ Some place
  pub there : slice_get bs place ≡ Some outer
  pub its : outer.clique ≡ parent_of v b.clique
  pub within : IsWithin outer b

-- but for that of clique 0
abbrev pub IsHeld : View → List CliqueBox → CliqueBox → Type 0
IsHeld v bs b = 0 < b.level → HasParent v bs b

-- of two boxes of one level the first ends where the second begins, or before
abbrev pub IsBeside : CliqueBox → CliqueBox → Type 0
IsBeside a b = a.level ≡ b.level → a.left + a.width ≤ b.left

-- The rows of a tree beside its boxes: each box has its row, in the same order, and the other rows are those of cliques that have none.
pub data AreRowsOf (v : View) (by : Measure) : List CliqueBox → List LineCells → Type 0 where
  no_rows : AreRowsOf v by [] []
  of_box : (b : CliqueBox) (bs : List CliqueBox) (rows : List LineCells) → AreRowsOf v by bs rows → AreRowsOf v by (b ∷ bs) (clique_row v by b.level b.clique ∷ rows)
  of_others : (level n sum : ℕ) (bs : List CliqueBox) (rows : List LineCells) → AreRowsOf v by bs rows → AreRowsOf v by bs (more_row (whole_of v by) level n sum ∷ rows)
