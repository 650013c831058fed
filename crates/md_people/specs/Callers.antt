-- The page of the callers of a procedure, and of its callees.
use Rattle.std.specs.Prelude.{ℕ, ◌+◌, ◌==◌, ◌&&◌, ◌||◌, nat_lt, Bool, true, false, List, [], ◌∷◌, ◌++◌, length, map, Option, Some, None, codes, if◌then◌else◌, sum_by, unwrap_or}
use Rattle.std.specs.List.{flat_map, range_with_len}
use Rattle.md_base.specs.declared.measure.Measure.{Measure}
use Rattle.md_trace.specs.Context.{same_option}
use Rattle.md_clique.specs.Places.{places}
use Rattle.md_cost.specs.View.{View, OfLink}
use Rattle.md_table.specs.Table.{TableCells}
use Rattle.md_people.specs.Counts.{own_counts, sums_by, whole_of}
use Rattle.md_people.specs.Ports.{PortsRow, ports_table}
use Rattle.md_people.specs.Words.{called_words, caller_words, proc_at}

-- ---- some links in one row

-- the sum of those totals that are there, or none where none is there
abbrev pub sum_some : List (Option ℕ) → Option ℕ
sum_some [] = None
sum_some (None ∷ totals) = sum_some totals
sum_some (Some n ∷ totals) = Some (n + unwrap_or (sum_some totals) 0)

-- Links within their clique have no total.
abbrev pub links_row : View → Measure → (links : List ℕ) (last : List ℕ) → PortsRow
links_row v by ls last = record {
  total = sum_some (map (λ l. v.total (OfLink l) by) ls);
  own = sums_by (λ m. sum_by (λ l. own_counts v (OfLink l) m) ls);
  last = last;
}

-- a row, where there are links for it
abbrev pub row_if_any : View → Measure → (links : List ℕ) (last : List ℕ) → List PortsRow
row_if_any v by [] last = []
row_if_any v by (l ∷ ls) last = links_row v by (l ∷ ls) last ∷ []

-- ---- the order of rows

-- a total is above another: there is none above none
abbrev pub is_above : Option ℕ → Option ℕ → Bool
is_above None other = false
is_above (Some n) None = true
is_above (Some n) (Some other) = nat_lt other n

-- rows with a total first, the greatest first, and of equal ones, or where there is none, that of more calls
abbrev pub comes_first : PortsRow → PortsRow → Bool
comes_first a b = is_above a.total b.total || (same_option a.total b.total && nat_lt b.own.calls a.own.calls)

-- a row put behind those that come first; rows that are equal in this keep their order
abbrev pub placed_with : PortsRow → List PortsRow → List PortsRow
placed_with row [] = row ∷ []
placed_with row (next ∷ rows) = if comes_first next row then next ∷ placed_with row rows else row ∷ next ∷ rows

abbrev pub in_order : List PortsRow → List PortsRow
in_order [] = []
in_order (row ∷ rows) = placed_with row (in_order rows)

-- ---- callers

-- the links that lead to a context of the procedure, from a site or from the root
abbrev pub links_to : View → (procedure : ℕ) (site : Option ℕ) → List ℕ
links_to v q s = places (λ x. (proc_at v x.callee == q) && same_option x.site s) v.links

abbrev pub caller_rows_at : View → Measure → ℕ → (site : ℕ) → List PortsRow
caller_rows_at v by q s = row_if_any v by (links_to v q (Some s)) (caller_words v.statics s)

-- the root, and each site from which the procedure is called
abbrev pub caller_rows : View → Measure → ℕ → List PortsRow
caller_rows v by q = row_if_any v by (links_to v q None) (codes "root") ++ flat_map (caller_rows_at v by q) (range_with_len 0 (length v.statics.sites))

abbrev pub callers_table : View → Measure → ℕ → TableCells
callers_table v by q = ports_table (whole_of v by) (codes "caller") (in_order (caller_rows v by q))

-- ---- callees

abbrev pub callee_rows_at : View → Measure → (site callee : ℕ) → List PortsRow
callee_rows_at v by s r = row_if_any v by (links_to v r (Some s)) (called_words v.statics s r)

abbrev pub sites_of : View → (procedure : ℕ) → List ℕ
sites_of v q = places (λ s. s.owner == q) v.statics.sites

-- each site of the procedure, and each procedure to which a link at that site leads
abbrev pub callee_rows : View → Measure → ℕ → List PortsRow
callee_rows v by q = flat_map (λ s. flat_map (callee_rows_at v by s) (range_with_len 0 (length v.statics.procs))) (sites_of v q)

abbrev pub called_table : View → Measure → ℕ → TableCells
called_table v by q = ports_table (whole_of v by) (codes "callee") (in_order (callee_rows v by q))
