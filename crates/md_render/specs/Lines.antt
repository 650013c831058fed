-- The title and the lines of a page, one for each row.
use Rattle.std.specs.Prelude.{ℕ, Bool, List, [], ◌∷◌, ◌++◌, Option, Some, None, codes, if◌then◌else◌, slice_get}
use Rattle.std.specs.List.{flat_map}
use Rattle.std.specs.Fmt.{decimal}
use Rattle.md_base.specs.declared.measure.Measure.{Measure}
use Rattle.md_static.specs.Tables.{Static}
use Rattle.md_static.specs.declared.entry.Site.{Site}
use Rattle.md_static.specs.declared.entry.SiteKind.{SiteKind}
use Rattle.md_static.specs.declared.entry.SiteKind.TheVariants.{Plain, HigherOrder}
use Rattle.md_table.specs.Table.{text_of}
use Rattle.md_query.specs.declared.row.Row.{Row}
use Rattle.md_query.specs.declared.row.Row.TheVariants as row
use Rattle.md_query.specs.declared.row.Title.{Title}
use Rattle.md_query.specs.declared.row.Title.TheVariants as title
use Rattle.md_cost.specs.declared.sums.Sums.{Sums}
use Rattle.md_render.specs.declared.form.Form.{Form}
use Rattle.md_render.specs.declared.form.Form.TheVariants.{Text}
use Rattle.md_render.specs.Names.{Names, module_name, full_name, caller_at, callee_at, clique_at}
use Rattle.md_render.specs.Words.{clique_words, proc_words, module_words, measure_word, sort_word, shown, what_word, counts_words, own_words, both_words, context_words, placed_words, link_words}

-- ---- the title

-- a number by a measure, and a procedure's full name
abbrev pub numbered_words : Static → (words : List ℕ) → Measure → (number proc : ℕ) → List ℕ
numbered_words s words by n q = words ++ (measure_word by ++ (codes " " ++ (decimal n ++ (codes " " ++ full_name s q))))

abbrev pub title_words : Static → Title → List ℕ
title_words s title.Menu = codes "mdprof menu"
title_words s (title.Clique k) = codes "mdprof clique " ++ decimal k
title_words s title.Procs = codes "mdprof procs"
title_words s (title.Top by n) = codes "mdprof top " ++ (measure_word by ++ (codes " " ++ decimal n))
title_words s (title.Proc q) = codes "mdprof proc " ++ (decimal q ++ (codes " " ++ full_name s q))
title_words s title.Modules = codes "mdprof modules"
title_words s (title.Module k) = codes "mdprof module " ++ module_name s k
title_words s (title.Hot by n sort) = codes "mdprof hot " ++ (measure_word by ++ (codes " " ++ (decimal n ++ (codes " " ++ sort_word sort))))
title_words s (title.Tree by least) = codes "mdprof tree " ++ (measure_word by ++ (codes " " ++ decimal least))
title_words s (title.Flame by least) = codes "mdprof flame " ++ (measure_word by ++ (codes " " ++ decimal least))
title_words s (title.Context by c q) = numbered_words s (codes "mdprof context ") by c q
title_words s (title.Callers by q) = numbered_words s (codes "mdprof callers ") by q q
title_words s (title.Find by text) = codes "mdprof find " ++ (measure_word by ++ (codes " " ++ shown text))

-- ---- the rows

abbrev pub finished_words : Bool → List ℕ
finished_words finished = if finished then codes "finished yes" else codes "finished no"

-- by which link, from where, a clique is entered
abbrev pub entered_words : Form → Names → ℕ → (caller : Option ℕ) → List ℕ
entered_words form n l None = codes "entered by root"
entered_words form n l (Some c) = codes "entered by " ++ (link_words n l ++ (codes " from " ++ placed_words form n c))

-- a procedure, with its full name
abbrev pub named_words : Form → Static → ℕ → List ℕ
named_words form s q = proc_words form q ++ (codes " " ++ full_name s q)

-- what a call site calls
abbrev pub called_words : Form → Static → SiteKind → List ℕ
called_words form s (Plain q) = codes "to " ++ named_words form s q
called_words form s HigherOrder = codes "higher-order"

abbrev pub line_words : Form → Static → Option Site → List ℕ
line_words form s None = []
line_words form s (Some x) = codes " line " ++ (decimal x.line ++ (codes " " ++ called_words form s x.kind))

abbrev pub site_words : Form → Static → ℕ → List ℕ
site_words form s x = codes "site " ++ (decimal x ++ line_words form s (slice_get s.sites x))

-- a link to another clique, and one within its own
abbrev pub leaving_words : Form → Names → ℕ → List ℕ
leaving_words form n l = codes "  " ++ (link_words n l ++ (codes " to " ++ placed_words form n (callee_at n l)))

abbrev pub inside_words : Names → ℕ → List ℕ
inside_words n l = codes "  " ++ (link_words n l ++ (codes " to " ++ context_words n (callee_at n l)))

-- a context of a procedure
abbrev pub context_of_words : Form → Names → ℕ → List ℕ
context_of_words form n c = codes "context " ++ (decimal c ++ (codes " " ++ clique_words form (clique_at n c)))

abbrev pub module_size_words : Form → (name : List ℕ) → (procs : ℕ) → List ℕ
module_size_words form name procs = module_words form name ++ (codes " procs " ++ decimal procs)

abbrev pub row_words : Form → Names → Row → List ℕ
row_words form n (row.Main k) = module_words form (module_name n.statics k)
row_words form n (row.Finished finished) = finished_words finished
row_words form n (row.Number w k) = what_word w ++ (codes " " ++ decimal k)
row_words form n (row.Entered l own) = entered_words form n l (caller_at n l) ++ own_words own
row_words form n (row.Own own) = codes "own " ++ counts_words own
row_words form n (row.Total total) = codes "total " ++ counts_words total
row_words form n (row.Context c own total) = context_words n c ++ both_words own total
row_words form n (row.Leaving l own total) = leaving_words form n l ++ both_words own total
row_words form n (row.Inside l own) = inside_words n l ++ own_words own
row_words form n (row.Proc q own total) = named_words form n.statics q ++ both_words own total
row_words form n (row.Of c own total) = context_of_words form n c ++ both_words own total
row_words form n (row.Site s own total) = site_words form n.statics s ++ both_words own total
row_words form n (row.Module k procs own total) = module_size_words form (module_name n.statics k) procs ++ both_words own total
row_words form n (row.Whole by whole) = measure_word by ++ (codes " " ++ decimal whole)
row_words form n (row.Table table) = text_of table

-- the line of a procedure with these costs, as text
abbrev pub proc_line : Static → ℕ → (own total : Sums) → List ℕ
proc_line s q own total = (named_words Text s q ++ both_words own total) ++ 10 ∷ []

-- each row is a line; a table has lines of its own, which are ended
abbrev pub line_end : Row → List ℕ
line_end (row.Table table) = []
line_end r = 10 ∷ []

abbrev pub row_line : Form → Names → Row → List ℕ
row_line form n r = row_words form n r ++ line_end r

abbrev pub row_lines : Form → Names → List Row → List ℕ
row_lines form n rows = flat_map (row_line form n) rows
