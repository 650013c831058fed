-- Small heaps, worked out by hand: what their cells stand for, and how many pairs of nodes comparisons look at.
use Rattle.std.proofs.Common.{pos, negsuc, ◌≡◌, [], ◌∷◌, refl}
use Rattle.md_heap.specs.declared.same.Same.TheVariants.{Equal, Differ, Over}
use Rattle.md_heap.specs.declared.value.Value.TheVariants.{Int, Lit, Cell}
use Rattle.md_heap.specs.Tree.{Number, Built, no_trees, also_tree, compared, same_within}
use Rattle.md_heap.specs.Cells.{Cells, tree_of}
use Rattle.md_heap.specs.Rank.{rank}

-- the empty list is the cell 0, [2] the cell 1, [1, 2] the cell 2, another [2] the cell 3, [1, 2] the cell 4 and
-- [1, 3, 2] the cells 5 and 6; head 1 is that of a list with members
abbrev lists : Cells
lists =
    record { head = 1; parts = Int (pos 1) ∷ Cell 5 ∷ [] }
    ∷ record { head = 1; parts = Int (pos 3) ∷ Cell 1 ∷ [] }
    ∷ record { head = 1; parts = Int (pos 1) ∷ Cell 3 ∷ [] }
    ∷ record { head = 1; parts = Int (pos 2) ∷ Cell 0 ∷ [] }
    ∷ record { head = 1; parts = Int (pos 1) ∷ Cell 1 ∷ [] }
    ∷ record { head = 1; parts = Int (pos 2) ∷ Cell 0 ∷ [] }
    ∷ record { head = 0; parts = [] }
    ∷ []

-- [1, 2]
stands-for-the-list : tree_of lists (Cell 2) ≡ Built 1 (also_tree (Number (pos 1)) (also_tree (Built 1 (also_tree (Number (pos 2)) (also_tree (Built 0 no_trees) no_trees))) no_trees))
stands-for-the-list = refl

-- two lists of two members have three lists and two members in them
equal-lists : same_within 5 (compared (tree_of lists (Cell 2)) (tree_of lists (Cell 4))) ≡ Equal 5
equal-lists = refl

one-pair-short : same_within 4 (compared (tree_of lists (Cell 2)) (tree_of lists (Cell 4))) ≡ Over
one-pair-short = refl

-- both lists, both first members, both rests, both second members
second-members-differ : same_within 4 (compared (tree_of lists (Cell 2)) (tree_of lists (Cell 6))) ≡ Differ 4
second-members-differ = refl

-- [2] and [1, 2]
first-members-differ : same_within 9 (compared (tree_of lists (Cell 1)) (tree_of lists (Cell 2))) ≡ Differ 2
first-members-differ = refl

kinds-differ : same_within 9 (compared (tree_of lists (Lit 0)) (tree_of lists (Cell 0))) ≡ Differ 1
kinds-differ = refl

nothing-is-allowed : same_within 0 (compared (tree_of lists (Int (pos 1))) (tree_of lists (Int (pos 1)))) ≡ Over
nothing-is-allowed = refl

-- an integer has the rank of the one below 0 that is as far from it (the wrong rule: that of its bits)
ranks-are-without-a-sign : rank (Int (negsuc 6)) ≡ 7
ranks-are-without-a-sign = refl

a-literal-ranks-by-its-number : rank (Lit 3) ≡ 3
a-literal-ranks-by-its-number = refl
