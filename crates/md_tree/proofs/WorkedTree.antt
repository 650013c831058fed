-- The children of a small tree in their list, and its branches, worked out by hand. Cliques 1, 2 and 4 are below clique 0, clique 3 is
-- below 1, and clique 5 below 2.
use Rattle.std.proofs.Common.{◌≡◌, ℕ, List, [], ◌∷◌, codes, refl}
use Rattle.std.specs.Prelude.{⊤}
use Rattle.std.specs.Fmt.{digits}
use Rattle.md_people.specs.Costs.{line_of}
use Rattle.md_tree.specs.declared.branch.Branch.{Branch}
use Rattle.md_tree.specs.declared.rest.Rest.{Rest}
use Rattle.md_tree.specs.Branches.{more_row, past_hidden, past_shown}
use Rattle.md_tree.specs.Children.{Child, cliques_below}
use Rattle.md_tree.specs.Rests.{cliques_left, past, rest_work, work_below}

unfoldable on_numbers : ⊤
unfolding digits
on_numbers = tt

abbrev pub child : (parent total clique : ℕ) → Child
child p t k = (p, record { 0 = t }, k)

abbrev pub small_tree : List Child
small_tree = child 0 5 2 ∷ child 0 1 1 ∷ child 0 0 4 ∷ child 1 1 3 ∷ child 2 4 5 ∷ []

abbrev pub rest : (parent place : ℕ) → Rest
rest p i = record { parent = p; place = i }

-- as they stand, and not by number
in-the-order-of-the-list : cliques_below small_tree 0 ≡ 2 ∷ 1 ∷ 4 ∷ []
in-the-order-of-the-list = refl

-- the cliques below, and not the places where they stand
the-cliques-themselves : cliques_below small_tree 2 ≡ 5 ∷ []
the-cliques-themselves = refl

none-below-a-leaf : cliques_below small_tree 3 ≡ []
none-below-a-leaf = refl

-- those from the place on: neither all children, nor as many as the place says
from-a-place-on : cliques_left small_tree (rest 0 1) ≡ 1 ∷ 4 ∷ []
from-a-place-on = refl

-- children of another clique don't count
past-the-last-one : cliques_left small_tree (rest 0 3) ≡ []
past-the-last-one = refl

one-further : cliques_left small_tree (past (rest 0 1)) ≡ 4 ∷ []
one-further = refl

-- two for each clique: its own turn, and the end of its branch
work-of-a-tree : work_below small_tree 6 0 ≡ 12
work-of-a-tree = refl

work-of-what-is-left : rest_work small_tree 6 (rest 0 1) ≡ 7
work-of-what-is-left = refl

-- below so few levels nothing is counted
work-of-one-level : work_below small_tree 1 0 ≡ 2
work-of-one-level = refl

-- the sum and its share in the whole, no own counts, and how many; the words are indented
two-more : more_row 7 1 2 3 ≡ line_of (codes "3" ∷ codes "42.8" ∷ codes "-" ∷ []) (codes "  2 more")
unfolding on_numbers
two-more = refl

abbrev branch : Branch
branch = record { rest = rest 0 1; level = 1; hidden = 2; sum = 3 }

-- a child that has no row is one more of these, and its total is in their sum
hidden-ones-add-up : past_hidden branch 4 ≡ record { rest = rest 0 2; level = 1; hidden = 3; sum = 7 }
hidden-ones-add-up = refl

shown-ones-dont : past_shown branch ≡ record { rest = rest 0 2; level = 1; hidden = 2; sum = 3 }
shown-ones-dont = refl
