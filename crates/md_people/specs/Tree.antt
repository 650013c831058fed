-- The page of the cliques as a tree.
use Rattle.std.specs.Prelude.{ℕ, zero, suc, ◌*◌, ◌==◌, ◌&&◌, ◌||◌, nat_le, nat_lt, not, Bool, List, [], ◌∷◌, ◌++◌, length, sum_by, codes, if◌then◌else◌, slice_index}
use Rattle.std.specs.List.{flat_map, filter, range_with_len}
use Rattle.std.specs.Fmt.{decimal}
use Rattle.md_base.specs.declared.measure.Measure.{Measure}
use Rattle.md_clique.specs.Cliques.{clique_count, members_of}
use Rattle.md_cost.specs.View.{View, OfContext, OfClique}
use Rattle.md_table.specs.Cells.{indent_of}
use Rattle.md_table.specs.Table.{LineCells, TableCells}
use Rattle.md_people.specs.Context.{entered_from}
use Rattle.md_people.specs.Costs.{counted_cells, line_of}
use Rattle.md_people.specs.Counts.{own_counts, total_counts, whole_of}
use Rattle.md_people.specs.Ranked.{ranked}
use Rattle.md_people.specs.Words.{clique_at, clique_words, full_name, line_words, proc_to, site_at}

-- ---- the tree

-- the parent of a clique other than clique 0: the clique of the start of the link that enters it
abbrev pub parent_of : View → (clique : ℕ) → ℕ
parent_of v k = clique_at v (entered_from v k)

-- clique j is a child of clique k
abbrev pub is_child : View → (k j : ℕ) → Bool
is_child v k j = nat_lt 0 j && (parent_of v j == k)

abbrev pub clique_total : View → Measure → ℕ → ℕ
clique_total v by k = total_counts v (OfClique k) by

-- the children of a clique: the greatest total comes first, and of equal ones the lower number
abbrev pub children : View → Measure → ℕ → List ℕ
children v by k = ranked (clique_total v by) (filter (is_child v k) (range_with_len 0 (clique_count v.cliques)))

-- the sum of the own counts of a clique's contexts
abbrev pub clique_own : View → Measure → ℕ → ℕ
clique_own v by k = sum_by (λ c. own_counts v (OfContext c) by) (members_of v.cliques k)

-- ---- its rows

-- a clique other than clique 0 has a row: its total is at least so many thousandths of the whole, and at least 1 unless all are asked for
abbrev pub is_shown : View → Measure → (least : ℕ) → ℕ → Bool
is_shown v by least k = nat_le (least * whole_of v by) (1000 * clique_total v by k) && ((least == 0) || nat_lt 0 (clique_total v by k))

abbrev pub shown_children : View → Measure → (least : ℕ) → ℕ → List ℕ
shown_children v by least k = filter (is_shown v by least) (children v by k)

abbrev pub hidden_children : View → Measure → (least : ℕ) → ℕ → List ℕ
hidden_children v by least k = filter (λ j. not (is_shown v by least j)) (children v by k)

-- the link that enters a clique, and the line of its site. Clique 0 is entered by the root link, which has none
abbrev pub entry_of : View → ℕ → ℕ
entry_of v k = slice_index v.entries k

abbrev pub entered_words : View → ℕ → List ℕ
entered_words v k = if k == 0 then [] else codes " from" ++ line_words v.statics (site_at v (entry_of v k))

-- of one context nothing is told
abbrev pub size_words : (contexts : ℕ) → List ℕ
size_words n = if nat_lt 1 n then codes " of " ++ (decimal n ++ codes " contexts") else []

-- the procedure of the context that is entered, from where, the clique, and its size
abbrev pub where_words : View → ℕ → List ℕ
where_words v k = full_name v.statics (proc_to v (entry_of v k)) ++ (entered_words v k ++ (clique_words k ++ size_words (length (members_of v.cliques k))))

abbrev pub clique_row : View → Measure → (level clique : ℕ) → LineCells
clique_row v by level k = line_of (counted_cells (clique_total v by k) (whole_of v by) ++ decimal (clique_own v by k) ∷ []) (indent_of level ++ where_words v k)

-- the row of the children that have none of their own, where there are any
abbrev pub more_rows : View → Measure → (level : ℕ) → List ℕ → List LineCells
more_rows v by level [] = []
more_rows v by level (j ∷ js) =
    line_of (counted_cells (sum_by (clique_total v by) (j ∷ js)) (whole_of v by) ++ codes "-" ∷ []) (indent_of level ++ (decimal (length (j ∷ js)) ++ codes " more")) ∷ []

-- A clique, its children with all that is below them, and those that have no row. A child has a higher number than its parent, so no
-- way down is longer than the number of cliques.
abbrev pub rows_from : View → Measure → (least steps level clique : ℕ) → List LineCells
rows_from v by least zero level k = []
rows_from v by least (suc n) level k =
    clique_row v by level k ∷ (flat_map (rows_from v by least n (suc level)) (shown_children v by least k) ++ more_rows v by (suc level) (hidden_children v by least k))

abbrev pub tree_heading : LineCells
tree_heading = line_of (codes "total" ∷ codes "%" ∷ codes "own" ∷ []) (codes "where")

abbrev pub tree_table : View → Measure → (least : ℕ) → TableCells
tree_table v by least = record { heading = tree_heading; rows = rows_from v by least (clique_count v.cliques) 0 0 }
