-- What cells stand for: an older cell stays what it was, and a cell stands for its head with its parts' trees.
use Rattle.std.proofs.Common.{ℕ, zero, suc, ◌≡◌, ◌<◌, ◌≤◌, inl, inr, List, [], ◌∷◌, length, All, Some, slice_get, refl, sym, ap, ◌∙◌, arith}
use Rattle.std.proofs.lemmas.Bool.{cases_eq, eq-eqb, ne_eqb, cond-true, cond-false}
use Rattle.std.proofs.lemmas.List.Elements.{All-head, All-tail, All-weaker}
use Rattle.md_heap.specs.declared.value.Value.{Value}
use Rattle.md_heap.specs.declared.value.Value.TheVariants.{Int, Lit, Cell}
use Rattle.md_heap.specs.Tree.{Tree, Built, also_tree, tree_get, tree_count}
use Rattle.md_heap.specs.Cells.{Node, Cells, IsThere, AreOlder, cell_at, tree_by, trees_by, cell_tree, tree_of, trees_of}

-- the newest cell, and the others
pub newest-cell : (c : Node) (h : Cells) (n : ℕ) → n ≡ length h → cell_at (c ∷ h) n ≡ c
newest-cell c h n e = cond-true _ c (cell_at h n) (eq-eqb n (length h) e)

pub older-cell : (c : Node) (h : Cells) (n : ℕ) → n < length h → cell_at (c ∷ h) n ≡ cell_at h n
older-cell c h n l = cond-false _ c (cell_at h n) (ne_eqb n (length h) (λ e. omega arith))

pub newest-tree : (c : Node) (h : Cells) (n : ℕ) → n ≡ length h → cell_tree (c ∷ h) n ≡ Built c.head (trees_of h c.parts)
newest-tree c h n e = cond-true _ (Built c.head (trees_of h c.parts)) (cell_tree h n) (eq-eqb n (length h) e)

pub older-tree : (c : Node) (h : Cells) (n : ℕ) → n < length h → cell_tree (c ∷ h) n ≡ cell_tree h n
older-tree c h n l = cond-false _ (Built c.head (trees_of h c.parts)) (cell_tree h n) (ne_eqb n (length h) (λ e. omega arith))

-- what was there stands for what it stood for
pub tree-stays : (c : Node) (h : Cells) (v : Value) → IsThere (length h) v → tree_of (c ∷ h) v ≡ tree_of h v
tree-stays c h (Int i) there = refl
tree-stays c h (Lit l) there = refl
tree-stays c h (Cell n) there = older-tree c h n there

pub trees-stay : (c : Node) (h : Cells) (vs : List Value) → All (IsThere (length h)) vs → trees_of (c ∷ h) vs ≡ trees_of h vs
trees-stay c h [] there = refl
trees-stay c h (v ∷ vs) there =
    let first = tree-stays c h v (All-head (IsThere (length h)) v vs there) in
    let rest = trees-stay c h vs (All-tail (IsThere (length h)) v vs there) in
    ap (λ t. also_tree t (trees_of (c ∷ h) vs)) first ∙ ap (λ ts. also_tree (tree_of h v) ts) rest

pub there-weaker : (m n : ℕ) (v : Value) → m ≤ n → IsThere m v → IsThere n v
there-weaker m n (Int i) le there = tt
there-weaker m n (Lit l) le there = tt
there-weaker m n (Cell k) le there = omega arith

-- a cell's parts are there
pub parts-there : (h : Cells) (n : ℕ) → AreOlder h → n < length h → All (IsThere (length h)) (cell_at h n).parts
parts-there [] n older l = absurd (omega arith)
parts-there (c ∷ h) n older l =
    let P : Node → Type 0 = λ x. All (IsThere (suc (length h))) x.parts in
    let weaker : (vs : List Value) → All (IsThere (length h)) vs → All (IsThere (suc (length h))) vs = λ vs all. All-weaker (IsThere (length h)) (IsThere (suc (length h))) (λ v there. there-weaker (length h) (suc (length h)) v (omega arith) there) vs all in
    elim (cases_eq n (length h)) [
      | inl e ↦ rw (newest-cell c h n e) (weaker c.parts older.0)
      | inr ne ↦ let lt : n < length h = omega arith in rw (older-cell c h n lt) (weaker (cell_at h n).parts (parts-there h n older.1 lt))
    ]

-- a cell stands for its head with what its parts stand for
pub unfolds : (h : Cells) (n : ℕ) → AreOlder h → n < length h → cell_tree h n ≡ Built (cell_at h n).head (trees_of h (cell_at h n).parts)
unfolds [] n older l = absurd (omega arith)
unfolds (c ∷ h) n older l =
    let made : Node → Tree = λ x. Built x.head (trees_of (c ∷ h) x.parts) in
    elim (cases_eq n (length h)) [
      | inl e ↦ newest-tree c h n e ∙ ap (λ ts. Built c.head ts) (sym (trees-stay c h c.parts older.0)) ∙ ap made (sym (newest-cell c h n e))
      | inr ne ↦
          let lt : n < length h = omega arith in
          let x = cell_at h n in
          older-tree c h n lt ∙ unfolds h n older.1 lt ∙ ap (λ ts. Built x.head ts) (sym (trees-stay c h x.parts (parts-there h n older.1 lt))) ∙ ap made (sym (older-cell c h n lt))
    ]

-- the trees of a list, by place
pub tree-at : (f : ℕ → Tree) (vs : List Value) (k : ℕ) (v : Value) → slice_get vs k ≡ Some v → tree_get (trees_by f vs) k ≡ Some (tree_by f v)
tree-at f [] k v is = absurd (cc)
tree-at f (w ∷ vs) zero v is = let e : w ≡ v = cc in ap (λ x. Some (tree_by f x)) e
tree-at f (w ∷ vs) (suc k) v is = tree-at f vs k v is

pub trees-count : (f : ℕ → Tree) (vs : List Value) → tree_count (trees_by f vs) ≡ length vs
trees-count f [] = refl
trees-count f (v ∷ vs) = ap suc (trees-count f vs)

pub there-at : (P : Value → Type 0) (vs : List Value) (k : ℕ) (v : Value) → All P vs → slice_get vs k ≡ Some v → P v
there-at P [] k v all is = absurd (cc)
there-at P (w ∷ vs) zero v all is = let e : w ≡ v = cc in rw (← e) (All-head P w vs all)
there-at P (w ∷ vs) (suc k) v all is = there-at P vs k v (All-tail P w vs all) is
