-- The rows and the boxes of a small tree, worked out by hand. Cliques 1, 2 and 4 are below clique 0, clique 3 is below 1, and clique 5
-- below 2; each has one context, of the same number.
use Rattle.std.proofs.Common.{◌≡◌, ℕ, ◌*◌, true, List, [], ◌∷◌, Option, Some, None, codes, refl}
use Rattle.std.specs.Prelude.{⊤}
use Rattle.std.specs.Fmt.{digits}
use Rattle.std.specs.List.{slice_get}
use Rattle.std.specs.Option.{option_map}
use Rattle.md_base.specs.declared.measure.Measure.{Measure}
use Rattle.md_base.specs.declared.measure.Measure.TheVariants.{Calls, Exits, Fails, Redos, Allocs, Words, Excps}
use Rattle.md_static.specs.declared.entry.SiteKind.TheVariants.{Plain}
use Rattle.md_cost.specs.View.{View, Join, OfLink, OfContext, OfClique, OfProcedure, OfSite, OfModule}
use Rattle.md_cost.specs.View.{Row as Counted}
use Rattle.md_table.specs.Table.{LineCells, text_of}
use Rattle.md_people.specs.Tree.{tree_table}
use Rattle.md_tree.specs.declared.branch.Branch.{Branch}
use Rattle.md_tree.specs.declared.picture.CliqueBox.{CliqueBox}
use Rattle.md_tree.specs.declared.picture.Twig.{Twig}
use Rattle.md_tree.specs.Branches.{branch_rows, more_of, open_rows}
use Rattle.md_tree.specs.Picture.{millionths, picture}
use Rattle.md_tree.specs.Twigs.{open_boxes, past_box, shown_left, twig_boxes}
use Rattle.md_tree.proofs.WorkedTree.{rest, small_tree}

unfoldable on_tables : ⊤
unfolding text_of digits
on_tables = tt

abbrev root : Join
root = record { caller = None; site = None; callee = 0 }

abbrev link : (caller callee : ℕ) → Join
link c d = record { caller = Some c; site = Some 0; callee = d }

abbrev own_of : Counted → Option ℕ
own_of (OfLink l) = slice_get (1 ∷ 0 ∷ 1 ∷ 1 ∷ 0 ∷ 4 ∷ []) l
own_of (OfContext c) = slice_get (1 ∷ 0 ∷ 1 ∷ 1 ∷ 0 ∷ 4 ∷ []) c
own_of (OfClique k) = None
own_of (OfProcedure q) = None
own_of (OfSite s) = None
own_of (OfModule k) = None

abbrev total_of : Counted → Option ℕ
total_of (OfLink l) = slice_get (7 ∷ 1 ∷ 5 ∷ 1 ∷ 0 ∷ 4 ∷ []) l
total_of (OfContext c) = slice_get (7 ∷ 1 ∷ 5 ∷ 1 ∷ 0 ∷ 4 ∷ []) c
total_of (OfClique k) = slice_get (7 ∷ 1 ∷ 5 ∷ 1 ∷ 0 ∷ 4 ∷ []) k
total_of (OfProcedure q) = None
total_of (OfSite s) = None
total_of (OfModule k) = None

abbrev calls_alone : Measure → ℕ
calls_alone Calls = 1
calls_alone Exits = 0
calls_alone Fails = 0
calls_alone Redos = 0
calls_alone Allocs = 0
calls_alone Words = 0
calls_alone Excps = 0

abbrev small : View
small = record {
  statics = record {
    modules = codes "t" ∷ [];
    procs = record { «module» = 0; name = codes "p"; arity = 0 } ∷ [];
    sites = record { owner = 0; line = 3; kind = Plain 0 } ∷ [];
  };
  nodes = 0 ∷ 0 ∷ 0 ∷ 0 ∷ 0 ∷ 0 ∷ [];
  links = root ∷ link 0 1 ∷ link 0 2 ∷ link 1 3 ∷ link 0 4 ∷ link 2 5 ∷ [];
  finished = true;
  cliques = 0 ∷ 1 ∷ 2 ∷ 3 ∷ 4 ∷ 5 ∷ [];
  entries = 0 ∷ 1 ∷ 2 ∷ 3 ∷ 4 ∷ 5 ∷ [];
  own = λ r m. option_map (λ n. calls_alone m * n) (own_of r);
  total = λ r m. option_map (λ n. calls_alone m * n) (total_of r);
}

abbrev box : (clique level : ℕ) → Option ℕ → (left width : ℕ) → CliqueBox
box k level parent left width = record { clique = k; level = level; parent = parent; left = left; width = width }

-- rounded down, and not to the nearest
five-sevenths : millionths 5 7 ≡ 714285
five-sevenths = refl

-- the greatest total at the left; a child begins at its parent's left edge, and the next one where it ends; the parent's box has its
-- place in the list, which isn't its clique's number
boxes-side-by-side :
    picture small Calls 1
    ≡ box 0 0 None 0 1000000 ∷ box 2 1 (Some 0) 0 714285 ∷ box 5 2 (Some 1) 0 571428 ∷ box 1 1 (Some 0) 714285 142857 ∷ box 3 2 (Some 3) 714285 142857 ∷ []
boxes-side-by-side = refl

-- where all are asked for, a clique without a total has a box without a width
a-box-for-each-clique :
    picture small Calls 0
    ≡ box 0 0 None 0 1000000 ∷ box 2 1 (Some 0) 0 714285 ∷ box 5 2 (Some 1) 0 571428 ∷ box 1 1 (Some 0) 714285 142857 ∷ box 3 2 (Some 3) 714285 142857 ∷ box 4 1 (Some 0) 857142 0 ∷ []
a-box-for-each-clique = refl

-- thousandths of the whole, and not of the parent
boxes-of-a-fifth-or-more : picture small Calls 200 ≡ box 0 0 None 0 1000000 ∷ box 2 1 (Some 0) 0 714285 ∷ box 5 2 (Some 1) 0 571428 ∷ []
boxes-of-a-fifth-or-more = refl

-- not even a box for clique 0
of-nothing-there-is-no-picture : picture small Allocs 0 ≡ []
of-nothing-there-is-no-picture = refl

-- each box has its row, in the same order, and those without a box are in the rows of the others: of clique 1's child alone, and of two
-- of clique 0's children
rows-of-a-fifth-or-more :
    text_of (tree_table small Calls 200)
    ≡ codes "\ntotal      %  own  where\n    7  100.0    1  t.p/0 clique 0\n    5   71.4    1    t.p/0 from line 3 clique 2\n    4   57.1    4      t.p/0 from line 3 clique 5\n    1   14.2    -    2 more\n"
unfolding on_tables
rows-of-a-fifth-or-more = refl

-- ---- under way

-- of no children there is no row
none-more : more_of small Calls 1 0 0 ≡ []
none-more = refl

abbrev branch : (parent place level hidden sum : ℕ) → Branch
branch p i level hidden sum = record { rest = rest p i; level = level; hidden = hidden; sum = sum }

abbrev last : LineCells → List ℕ
last line = line.last

abbrev lasts : List LineCells → List (List ℕ)
lasts [] = []
lasts (line ∷ lines) = last line ∷ lasts lines

-- the children that are left, and then those that have no row, with the ones before
what-a-branch-has-left : lasts (branch_rows small Calls 1 small_tree (branch 0 1 1 2 9)) ≡ codes "  t.p/0 from line 3 clique 1" ∷ codes "    t.p/0 from line 3 clique 3" ∷ codes "  3 more" ∷ []
unfolding on_tables
what-a-branch-has-left = refl

-- the last branch comes first
branches-from-the-last-on : lasts (open_rows small Calls 1 small_tree (branch 0 3 1 1 1 ∷ branch 2 5 2 4 4 ∷ [])) ≡ codes "    4 more" ∷ codes "  1 more" ∷ []
unfolding on_tables
branches-from-the-last-on = refl

abbrev twig : (parent at level place left : ℕ) → Twig
twig p i level place left = record { rest = rest p i; level = level; place = place; left = left }

-- those that have no box are left out
shown-ones : shown_left small Calls 1 small_tree (twig 0 0 1 0 0) ≡ 2 ∷ 1 ∷ []
shown-ones = refl

-- from the twig's left edge on, at the place where the list is long enough
what-a-twig-has-left : twig_boxes small Calls 1 small_tree 3 (twig 0 1 1 0 714285) ≡ box 1 1 (Some 0) 714285 142857 ∷ box 3 2 (Some 3) 714285 142857 ∷ []
what-a-twig-has-left = refl

-- the second twig's boxes stand behind those of the first
twigs-one-after-the-other :
    open_boxes small Calls 1 small_tree 2 (twig 2 4 2 1 0 ∷ twig 0 1 1 0 714285 ∷ []) ≡ box 5 2 (Some 1) 0 571428 ∷ box 1 1 (Some 0) 714285 142857 ∷ box 3 2 (Some 3) 714285 142857 ∷ []
twigs-one-after-the-other = refl

past-a-box : past_box (twig 0 0 1 0 10) 5 ≡ twig 0 1 1 0 15
past-a-box = refl
