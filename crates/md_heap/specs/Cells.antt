-- A heap as the list of its cells, the newest first: a cell's number is how many are older. What a value stands for.
use Rattle.std.specs.Prelude.{ℕ, ◌<◌, List, [], ◌∷◌, length, All, Bool, true, cond, nat_eq, nat_lt}
use Rattle.md_heap.specs.declared.value.Value.{Value}
use Rattle.md_heap.specs.declared.value.Value.TheVariants.{Int, Lit, Cell}
use Rattle.md_heap.specs.Tree.{Tree, Number, Literal, Built, Trees, no_trees, also_tree}

pub record Node : Type 0 where
  pub head : ℕ
  pub parts : List Value

abbrev pub Cells : Type 0
Cells = List Node

-- a value is there where so many cells are: it is no cell, or one of them
abbrev pub IsThere : ℕ → Value → Type 0
IsThere count (Int i) = Unit {0}
IsThere count (Lit l) = Unit {0}
IsThere count (Cell n) = n < count

-- the same as a test
abbrev pub is_there : ℕ → Value → Bool
is_there count (Int i) = true
is_there count (Lit l) = true
is_there count (Cell n) = nat_lt n count

-- the parts of a cell are older than the cell
abbrev pub AreOlder : Cells → Type 0
AreOlder [] = Unit {0}
AreOlder (c ∷ older) = All (IsThere (length older)) c.parts × AreOlder older

-- the cell of a number; one that isn't there has head 0 and no parts
abbrev pub cell_at : Cells → ℕ → Node
cell_at [] n = record { head = 0; parts = [] }
cell_at (c ∷ older) n = cond (nat_eq n (length older)) c (cell_at older n)

-- what a value stands for, where it is known what cells stand for
abbrev pub tree_by : (ℕ → Tree) → Value → Tree
tree_by f (Int i) = Number i
tree_by f (Lit l) = Literal l
tree_by f (Cell n) = f n

abbrev pub trees_by : (ℕ → Tree) → List Value → Trees
trees_by f [] = no_trees
trees_by f (v ∷ vs) = also_tree (tree_by f v) (trees_by f vs)

-- a cell stands for its head with what its parts stand for among the older cells
abbrev pub cell_tree : Cells → ℕ → Tree
cell_tree [] n = Built 0 no_trees
cell_tree (c ∷ older) n = cond (nat_eq n (length older)) (Built c.head (trees_by (λ k. cell_tree older k) c.parts)) (cell_tree older n)

abbrev pub tree_of : Cells → Value → Tree
tree_of cells v = tree_by (λ k. cell_tree cells k) v

abbrev pub trees_of : Cells → List Value → Trees
trees_of cells vs = trees_by (λ k. cell_tree cells k) vs
