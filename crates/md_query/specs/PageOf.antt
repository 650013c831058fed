-- The page that a query asks for, by a view: what it is of, and which rows it has, in which order.
use Rattle.std.specs.Prelude.{ℕ, ◌==◌, nat_lt, List, [], ◌∷◌, ◌++◌, length, map, take, Option, Some, None, slice_get, slice_index, if◌then◌else◌, unwrap_or, option_and_then}
use Rattle.std.specs.Str.{bytes_eq}
use Rattle.std.specs.List.{range_with_len, position, flat_map}
use Rattle.std.specs.Option.{option_map}
use Rattle.md_base.specs.declared.measure.Measure.{Measure}
use Rattle.md_base.specs.declared.measure.Measure.TheVariants.{Calls, Exits, Fails, Redos, Allocs, Words, Excps}
use Rattle.md_trace.specs.Context.{same_option}
use Rattle.md_clique.specs.Cliques.{clique_count, members_of}
use Rattle.md_clique.specs.Entries.{is_outside}
use Rattle.md_clique.specs.Places.{places}
use Rattle.md_cost.specs.declared.sums.Sums.{Sums}
use Rattle.md_cost.specs.View.{View, Join, OfLink, OfContext, OfClique, OfProcedure, OfSite, OfModule}
use Rattle.md_cost.specs.View.{Row as Counted}
use Rattle.md_table.specs.Table.{TableCells}
use Rattle.md_people.specs.declared.sort.Sort.{Sort}
use Rattle.md_people.specs.Counts.{whole_of}
use Rattle.md_people.specs.Find.{found_modules_table, found_procs_table}
use Rattle.md_people.specs.Hot.{hot_table}
use Rattle.md_people.specs.Ranked.{ranked}
use Rattle.md_people.specs.Callers.{called_table, callers_table}
use Rattle.md_people.specs.Context.{callees_table, stations_table}
use Rattle.md_people.specs.Tree.{tree_table}
use Rattle.md_people.specs.Words.{proc_at, proc_named}
use Rattle.md_query.specs.declared.row.Row.{Row}
use Rattle.md_query.specs.declared.row.Row.TheVariants as row
use Rattle.md_query.specs.declared.row.Title.{Title}
use Rattle.md_query.specs.declared.row.Title.TheVariants as title
use Rattle.md_query.specs.declared.row.What.{What}
use Rattle.md_query.specs.declared.row.What.TheVariants as what
use Rattle.md_query.specs.Asked.{Asked, Menu, Root, Clique, Procs, Top, Proc, Modules, Module, Hot, Tree, Flame, Find, Context, Callers, CallersNamed, ProcNamed, CliqueNamed}
use Rattle.md_query.specs.Page.{PageRows}

-- ---- the numbers of a row of the view

-- the seven numbers, by measure
abbrev pub sums_by : (Measure → Option ℕ) → Sums
sums_by n = record {
  calls = unwrap_or (n Calls) 0;
  exits = unwrap_or (n Exits) 0;
  fails = unwrap_or (n Fails) 0;
  redos = unwrap_or (n Redos) 0;
  allocs = unwrap_or (n Allocs) 0;
  words = unwrap_or (n Words) 0;
  excps = unwrap_or (n Excps) 0;
}

abbrev pub own_of : View → Counted → Sums
own_of v r = sums_by (v.own r)

abbrev pub total_of : View → Counted → Sums
total_of v r = sums_by (v.total r)

-- ---- the menu

abbrev pub measure_row : View → What → Measure → Row
measure_row v w m = row.Number w (unwrap_or (v.total (OfClique 0) m) 0)

-- exceptions are told where there are any
abbrev pub excps_rows : ℕ → List Row
excps_rows n = if n == 0 then [] else row.Number what.Excps n ∷ []

abbrev pub menu_rows : View → List Row
menu_rows v =
    row.Main 0
    ∷ row.Finished v.finished
    ∷ row.Number what.Contexts (length v.nodes)
    ∷ row.Number what.Links (length v.links)
    ∷ row.Number what.Cliques (clique_count v.cliques)
    ∷ measure_row v what.Calls Calls
    ∷ measure_row v what.Exits Exits
    ∷ measure_row v what.Fails Fails
    ∷ measure_row v what.Redos Redos
    ∷ measure_row v what.Allocs Allocs
    ∷ measure_row v what.Words Words
    ∷ excps_rows (unwrap_or (v.total (OfClique 0) Excps) 0)

-- ---- a clique

-- the links that start in a context, in rising order
abbrev pub links_from : View → ℕ → List ℕ
links_from v c = places (λ x. same_option x.caller (Some c)) v.links

-- a link that starts outside the clique where it ends leaves its own, with the total of what it enters; others stay inside
abbrev pub link_row_at : View → ℕ → Option Join → Row
link_row_at v p None = row.Inside p (own_of v (OfLink p))
link_row_at v p (Some x) =
    if is_outside v.cliques (slice_index v.cliques x.callee) x.caller
    then row.Leaving p (own_of v (OfLink p)) (total_of v (OfLink p))
    else row.Inside p (own_of v (OfLink p))

abbrev pub link_row : View → ℕ → Row
link_row v p = link_row_at v p (slice_get v.links p)

abbrev pub context_row : View → ℕ → Row
context_row v c = row.Context c (own_of v (OfContext c)) (total_of v (OfContext c))

-- a context, and the links that start there
abbrev pub context_rows : View → ℕ → List Row
context_rows v c = context_row v c ∷ map (link_row v) (links_from v c)

-- the link that enters the clique
abbrev pub entered_row : View → ℕ → Row
entered_row v k = row.Entered (slice_index v.entries k) (own_of v (OfLink (slice_index v.entries k)))

-- the link that enters it, its total, and its contexts in rising order
abbrev pub clique_rows : View → ℕ → List Row
clique_rows v k = entered_row v k ∷ row.Total (total_of v (OfClique k)) ∷ flat_map (context_rows v) (members_of v.cliques k)

-- ---- procedures

abbrev pub proc_row : View → ℕ → Row
proc_row v q = row.Proc q (own_of v (OfProcedure q)) (total_of v (OfProcedure q))

abbrev pub all_procs : View → List ℕ
all_procs v = range_with_len 0 (length v.statics.procs)

-- the own count of a procedure
abbrev pub count_in_proc : View → Measure → ℕ → ℕ
count_in_proc v by q = unwrap_or (v.own (OfProcedure q) by) 0

-- the first n procedures by their own count of a measure
abbrev pub top_procs : View → Measure → ℕ → List ℕ
top_procs v by n = take n (ranked (count_in_proc v by) (all_procs v))

-- a context of the procedure
abbrev pub of_row : View → ℕ → Row
of_row v c = row.Of c (own_of v (OfContext c)) (total_of v (OfContext c))

abbrev pub site_row : View → ℕ → Row
site_row v s = row.Site s (own_of v (OfSite s)) (total_of v (OfSite s))

-- the contexts of a procedure, and its call sites, in rising order
abbrev pub contexts_of : View → ℕ → List ℕ
contexts_of v q = places (λ p. p == q) v.nodes

abbrev pub sites_of : View → ℕ → List ℕ
sites_of v q = places (λ s. s.owner == q) v.statics.sites

abbrev pub proc_rows : View → ℕ → List Row
proc_rows v q =
    row.Own (own_of v (OfProcedure q)) ∷ row.Total (total_of v (OfProcedure q)) ∷ (map (of_row v) (contexts_of v q) ++ map (site_row v) (sites_of v q))

-- ---- modules

-- the procedures of a module, in rising order
abbrev pub procs_of_module : View → ℕ → List ℕ
procs_of_module v k = places (λ p. p.«module» == k) v.statics.procs

abbrev pub module_row : View → ℕ → Row
module_row v k = row.Module k (length (procs_of_module v k)) (own_of v (OfModule k)) (total_of v (OfModule k))

abbrev pub module_rows : View → ℕ → List Row
module_rows v k = row.Own (own_of v (OfModule k)) ∷ row.Total (total_of v (OfModule k)) ∷ map (proc_row v) (procs_of_module v k)

-- ---- tables

-- whether the run was finished, the whole of the measure, and tables
abbrev pub table_rows : View → Measure → List TableCells → List Row
table_rows v by tables = row.Finished v.finished ∷ row.Whole by (whole_of v by) ∷ map (λ t. row.Table t) tables

abbrev pub hot_rows : View → Measure → ℕ → Sort → List Row
hot_rows v by n sort = table_rows v by (hot_table v by n sort ∷ [])

abbrev pub tree_rows : View → Measure → (least : ℕ) → List Row
tree_rows v by least = table_rows v by (tree_table v by least ∷ [])

abbrev pub find_rows : View → Measure → (text : List ℕ) → List Row
find_rows v by text = table_rows v by (found_procs_table v by text ∷ found_modules_table v by text ∷ [])

-- ---- the page

abbrev pub page_with : Title → List Row → PageRows
page_with t rows = record { title = t; rows = rows }

abbrev pub clique_page : View → ℕ → PageRows
clique_page v k = page_with (title.Clique k) (clique_rows v k)

abbrev pub context_page : View → Measure → ℕ → PageRows
context_page v by c = page_with (title.Context by c (proc_at v c)) (table_rows v by (stations_table v by c ∷ callees_table v by c ∷ []))

abbrev pub callers_page : View → Measure → ℕ → PageRows
callers_page v by q = page_with (title.Callers by q) (table_rows v by (callers_table v by q ∷ called_table v by q ∷ []))

-- the clique of the first context of a procedure
abbrev pub clique_at : View → (context : ℕ) → ℕ
clique_at v c = slice_index v.cliques c

abbrev pub first_clique : View → (procedure : ℕ) → Option ℕ
first_clique v q = option_map (clique_at v) (position (λ p. p == q) v.nodes)

abbrev pub proc_page : View → ℕ → PageRows
proc_page v q = page_with (title.Proc q) (proc_rows v q)

abbrev pub module_page : View → ℕ → PageRows
module_page v k = page_with (title.Module k) (module_rows v k)

abbrev pub all_modules : View → List ℕ
all_modules v = range_with_len 0 (length v.statics.modules)

-- the number of the module of a name
abbrev pub module_named : View → List ℕ → Option ℕ
module_named v name = position (λ m. bytes_eq m name) v.statics.modules

-- a flame graph has no rows: its text and its picture are of the whole profile
-- there is none where the query's clique, context, procedure or module isn't in the view
unfoldable pub page_of : View → Asked → Option PageRows
page_of v Menu = Some (page_with title.Menu (menu_rows v))
page_of v Root = Some (clique_page v 0)
page_of v (Clique k) = if nat_lt k (clique_count v.cliques) then Some (clique_page v k) else None
page_of v Procs = Some (page_with title.Procs (map (proc_row v) (all_procs v)))
page_of v (Top by n) = Some (page_with (title.Top by n) (map (proc_row v) (top_procs v by n)))
page_of v (Proc q) = if nat_lt q (length v.statics.procs) then Some (page_with (title.Proc q) (proc_rows v q)) else None
page_of v Modules = Some (page_with title.Modules (map (module_row v) (all_modules v)))
page_of v (Module name) = option_map (module_page v) (module_named v name)
page_of v (Hot by n sort) = Some (page_with (title.Hot by n sort) (hot_rows v by n sort))
page_of v (Tree by least) = Some (page_with (title.Tree by least) (tree_rows v by least))
page_of v (Flame by least) = Some (page_with (title.Flame by least) [])
page_of v (Find by text) = Some (page_with (title.Find by text) (find_rows v by text))
page_of v (Context by c) = if nat_lt c (length v.nodes) then Some (context_page v by c) else None
page_of v (Callers by q) = if nat_lt q (length v.statics.procs) then Some (callers_page v by q) else None
page_of v (CallersNamed by name) = option_map (callers_page v by) (proc_named v.statics name)
page_of v (ProcNamed name) = option_map (proc_page v) (proc_named v.statics name)
page_of v (CliqueNamed name) = option_map (clique_page v) (option_and_then (first_clique v) (proc_named v.statics name))
