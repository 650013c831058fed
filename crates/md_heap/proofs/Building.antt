-- What building a cell leaves.
use Rattle.std.proofs.Common.{ℕ, ◌≡◌, List, [], ◌∷◌, ◌++◌, length, All, sym, ap, ◌∙◌, subst}
use Rattle.md_heap.specs.declared.row.Row.{Row}
use Rattle.md_heap.specs.declared.value.Value.{Value}
use Rattle.md_heap.specs.declared.value.Value.TheVariants.{Cell}
use Rattle.md_heap.specs.Tree.{Built}
use Rattle.md_heap.specs.Cells.{Node, Cells, IsThere, tree_of, trees_of}
use Rattle.md_heap.specs.Layout.{cells_of, IsLaidOut}
use Rattle.md_heap.proofs.Laid.{cells-push, laid-push, length-below}
use Rattle.md_heap.proofs.Meaning.{newest-tree, tree-stays}

pub record IsBuilt (rows : List Row) (parts : List Value) (h : Cells) (head : ℕ) (ps : List Value) : Type 0 where
  pub laid : IsLaidOut rows parts
  pub cells : cells_of rows parts ≡ record { head = head; parts = ps } ∷ h

pub built : (rows rows1 rows2 : List Row) (parts parts2 ps : List Value) (h : Cells) (row : Row) → IsLaidOut rows parts → cells_of rows parts ≡ h → rows1 ≡ rows → rows2 ≡ rows1 ++ row ∷ [] →
    parts2 ≡ parts ++ ps → row.first ≡ length parts → All (IsThere (length h)) ps → IsBuilt rows2 parts2 h row.head ps
built rows rows1 rows2 parts parts2 ps h row laid view same pushed added at there =
    let rows_are : rows2 ≡ rows ++ row ∷ [] = pushed ∙ ap (λ xs. xs ++ row ∷ []) same in
    let P : ℕ → Type 0 = λ n. All (IsThere n) ps in
    let here = subst P (sym (ap length view)) there in
    let Q : List Row → Type 0 = λ xs. IsLaidOut xs (parts ++ ps) in
    let R : List Value → Type 0 = λ xs. IsLaidOut rows2 xs in
    record {
      laid = subst R (sym added) (subst Q (sym rows_are) (laid-push rows parts ps row laid at here));
      cells = ap (λ xs. cells_of xs parts2) rows_are ∙ ap (λ xs. cells_of (rows ++ row ∷ []) xs) added ∙ cells-push rows parts ps row laid at ∙ ap (λ xs. record { head = row.head; parts = ps } ∷ xs) view;
    }

-- how many cells there are, by the rows
pub row-count : (rows : List Row) (parts : List Value) (h : Cells) → cells_of rows parts ≡ h → length rows ≡ length h
row-count rows parts h view = sym (length-below rows parts (length rows)) ∙ ap length view

pub new-means : (x h : Cells) (head n : ℕ) (ps : List Value) → x ≡ record { head = head; parts = ps } ∷ h → n ≡ length h → tree_of x (Cell n) ≡ Built head (trees_of h ps)
new-means x h head n ps is at = ap (λ y. tree_of y (Cell n)) is ∙ newest-tree (record { head = head; parts = ps }) h n at

pub old-stays : (x h : Cells) (c : Node) → x ≡ c ∷ h → (v : Value) → IsThere (length h) v → tree_of x v ≡ tree_of h v
old-stays x h c is v there = ap (λ y. tree_of y v) is ∙ tree-stays c h v there
