-- What a value stands for: a finite tree. How many pairs of nodes a comparison of two of them looks at.
use Rattle.std.specs.Prelude.{ℕ, suc, zero, ◌+◌, ℤ, Bool, true, false, ◌&&◌, Option, Some, None, cond, nat_eq, nat_le}
use Rattle.std.specs.Ordering.{int_eq}
use Rattle.md_heap.specs.declared.same.Same.{Same}
use Rattle.md_heap.specs.declared.same.Same.TheVariants.{Equal, Differ, Over}

mutual
  pub data Tree : Type 0 where
    Number : (n : ℤ) → Tree
    -- a literal, by its number
    Literal : (l : ℕ) → Tree
    -- a head and the parts below it; a constant has none
    Built : (head : ℕ) (parts : Trees) → Tree

  pub data Trees : Type 0 where
    no_trees : Trees
    also_tree : (t : Tree) (ts : Trees) → Trees

abbrev pub tree_count : Trees → ℕ
tree_count no_trees = 0
tree_count (also_tree t ts) = suc (tree_count ts)

abbrev pub tree_get : Trees → ℕ → Option Tree
tree_get no_trees k = None
tree_get (also_tree t ts) zero = Some t
tree_get (also_tree t ts) (suc k) = tree_get ts k

-- the part of a tree at a place
abbrev pub part_of : Tree → ℕ → Option Tree
part_of (Built f ts) k = tree_get ts k
part_of (Number n) k = None
part_of (Literal l) k = None

-- a comparison of two trees: how many pairs of nodes it looks at, in preorder up to and including the first that
-- differs, and whether none differs
pub record Compared : Type 0 where
  pub pairs : ℕ
  pub equal : Bool

-- one pair of nodes, which is equal or not
abbrev pub one_pair : Bool → Compared
one_pair same = record { pairs = 1; equal = same }

-- what a pair of nodes and then the pairs below it come to
abbrev pub below_pair : Bool → Compared → Compared
below_pair same rest = cond same (record { pairs = suc rest.pairs; equal = rest.equal }) (one_pair false)

-- first one comparison and then, where it found no difference, another
abbrev pub then_compared : Compared → Compared → Compared
then_compared c rest = cond c.equal (record { pairs = c.pairs + rest.pairs; equal = rest.equal }) c

-- two nodes are equal where they are the same integer, the same literal, or have the same head and as many parts
abbrev mutual
  pub compared : Tree → Tree → Compared
  compared (Number m) (Number n) = one_pair (int_eq m n)
  compared (Literal a) (Literal b) = one_pair (nat_eq a b)
  compared (Built f xs) (Built g ys) = below_pair (nat_eq f g && nat_eq (tree_count xs) (tree_count ys)) (all_compared xs ys)
  compared v w = one_pair false

  pub all_compared : Trees → Trees → Compared
  all_compared (also_tree v vs) (also_tree w ws) = then_compared (compared v w) (all_compared vs ws)
  all_compared vs ws = record { pairs = 0; equal = true }

-- the answer within a limit of pairs
abbrev pub same_within : ℕ → Compared → Same
same_within limit c = cond (nat_le c.pairs limit) (cond c.equal (Equal c.pairs) (Differ c.pairs)) Over
