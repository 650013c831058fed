-- Branches of the tree under way: the children of a clique that are still to be looked at, and how many of those before have no row.
use Rattle.std.specs.Prelude.{ℕ, ◌≤◌, ◌+◌, ◌*◌, ◌^◌, ◌==◌, not, List, [], ◌∷◌, ◌++◌, length, reverse, sum_by, codes, if◌then◌else◌}
use Rattle.std.specs.Fmt.{decimal}
use Rattle.std.specs.List.{filter, flat_map}
use Rattle.md_base.specs.declared.measure.Measure.{Measure}
use Rattle.md_clique.specs.Cliques.{clique_count}
use Rattle.md_cost.specs.View.{View}
use Rattle.md_table.specs.Cells.{indent_of}
use Rattle.md_table.specs.Table.{LineCells}
use Rattle.md_people.specs.Costs.{counted_cells, line_of}
use Rattle.md_people.specs.Counts.{whole_of}
use Rattle.md_people.specs.Tree.{clique_total, is_shown, rows_from}
use Rattle.md_tree.specs.declared.branch.Branch.{Branch}
use Rattle.md_tree.specs.Children.{Child}
use Rattle.md_tree.specs.Rests.{IsRest, cliques_left, past, rest_work}

-- the row of so many children that have none of their own, with the sum of their totals; where there are none there is no row
abbrev pub more_row : (whole level count sum : ℕ) → LineCells
more_row whole level n sum = line_of (counted_cells sum whole ++ codes "-" ∷ []) (indent_of level ++ (decimal n ++ codes " more"))

abbrev pub more_of : View → Measure → (level count sum : ℕ) → List LineCells
more_of v by level n sum = if n == 0 then [] else more_row (whole_of v by) level n sum ∷ []

abbrev pub hidden_among : View → Measure → (least : ℕ) → List ℕ → List ℕ
hidden_among v by least ks = filter (λ k. not (is_shown v by least k)) ks

-- the rows of the children that are left with all that is below them, and the one of those that have none, with the ones before
abbrev pub rows_of_left : View → Measure → (least level hidden sum : ℕ) → List ℕ → List LineCells
rows_of_left v by least level n sum ks =
    flat_map (rows_from v by least (clique_count v.cliques) level) (filter (is_shown v by least) ks)
    ++ more_of v by level (n + length (hidden_among v by least ks)) (sum + sum_by (clique_total v by) (hidden_among v by least ks))

abbrev pub branch_rows : View → Measure → (least : ℕ) → List Child → Branch → List LineCells
branch_rows v by least cs b = rows_of_left v by least b.level b.hidden b.sum (cliques_left cs b.rest)

-- of branches under way the last one comes first
abbrev pub open_rows : View → Measure → (least : ℕ) → List Child → List Branch → List LineCells
open_rows v by least cs bs = flat_map (branch_rows v by least cs) (reverse bs)

-- past the child at its place: it has a row of its own, or none
abbrev pub past_shown : Branch → Branch
past_shown b = record b { rest = past b.rest }

abbrev pub past_hidden : Branch → (total : ℕ) → Branch
past_hidden b total = record b { rest = past b.rest; hidden = b.hidden + 1; sum = b.sum + total }

abbrev pub open_work : List Child → (levels : ℕ) → List Branch → ℕ
open_work cs n bs = sum_by (λ b. rest_work cs n b.rest) bs

-- a branch of a tree of so many cliques: no more of its children have no row than stand before its place
pub record IsBranch (count : ℕ) (cs : List Child) (b : Branch) : Type 0 where
  pub rest : IsRest count cs b.rest
  pub level : b.level ≤ b.rest.parent + 1
  pub hidden : b.hidden ≤ b.rest.place
  pub sum : b.sum ≤ b.hidden * 2 ^ 64
