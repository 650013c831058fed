-- What a path and pairs ask for.
use Rattle.std.specs.Prelude.{ℕ, Bool, true, false, ◌||◌, ◌==◌, List, [], length, Option, Some, None, codes, cond}
use Rattle.std.specs.Str.{bytes_eq}
use Rattle.md_base.specs.declared.measure.Measure.{Measure}
use Rattle.md_people.specs.declared.sort.Sort.{Sort}
use Rattle.md_query.specs.Pair.{value_of, id_in, id_within, count_in, measure_in, measure_asked, count_asked, sort_asked, least_asked}

pub data Asked : Type 0 where
  -- what the profile is of, and how much it holds
  Menu : Asked
  -- the clique where the run began
  Root : Asked
  -- a clique, by its number
  Clique : (id : ℕ) → Asked
  -- each procedure
  Procs : Asked
  -- the first `n` procedures by their own count of a measure
  Top : (by : Measure) (n : ℕ) → Asked
  -- a procedure, by its number
  Proc : (id : ℕ) → Asked
  -- each module
  Modules : Asked
  -- a module, by its name
  Module : (name : List ℕ) → Asked
  -- the first `n` procedures by their totals or own counts of a measure, with their shares
  Hot : (by : Measure) (n : ℕ) (sort : Sort) → Asked
  -- the cliques as a tree, those whose totals are at least so many thousandths of the whole
  Tree : (by : Measure) (least : ℕ) → Asked
  -- the stations of each context that has own counts; as a picture, the cliques whose totals are at least so many thousandths of the whole
  Flame : (by : Measure) (least : ℕ) → Asked
  -- the procedures and the modules in whose name a text is, with their shares of a measure
  Find : (by : Measure) (text : List ℕ) → Asked
  -- a context, by its number, with its stations and the links that start there
  Context : (by : Measure) (id : ℕ) → Asked
  -- the callers of a procedure, by its number, and what it calls
  Callers : (by : Measure) (id : ℕ) → Asked
  -- the same of the procedure of a full name
  CallersNamed : (by : Measure) (name : List ℕ) → Asked
  -- a procedure, by its full name
  ProcNamed : (name : List ℕ) → Asked
  -- the clique of the first context of a procedure, by the full name of this
  CliqueNamed : (name : List ℕ) → Asked

abbrev pub clique_of : (id : Option ℕ) → Option Asked
clique_of None = None
clique_of (Some id) = Some (Clique id)

abbrev pub clique_named_of : (name : Option (List ℕ)) → Option Asked
clique_named_of None = None
clique_named_of (Some name) = Some (CliqueNamed name)

-- by its number where there is a pair for it, and else by a name
abbrev pub clique_by : (id name : Option (List ℕ)) → Option Asked
clique_by None name = clique_named_of name
clique_by (Some id) name = clique_of (id_within id)

abbrev pub top_of : (by : Option Measure) (n : Option ℕ) → Option Asked
top_of (Some by) (Some n) = Some (Top by n)
top_of by n = None

abbrev pub proc_of : (id : Option ℕ) → Option Asked
proc_of None = None
proc_of (Some id) = Some (Proc id)

abbrev pub proc_named_of : (name : Option (List ℕ)) → Option Asked
proc_named_of None = None
proc_named_of (Some name) = Some (ProcNamed name)

abbrev pub proc_by : (id name : Option (List ℕ)) → Option Asked
proc_by None name = proc_named_of name
proc_by (Some id) name = proc_of (id_within id)

abbrev pub module_of : (name : Option (List ℕ)) → Option Asked
module_of None = None
module_of (Some name) = Some (Module name)

abbrev pub hot_of : (by : Option Measure) (n : Option ℕ) (sort : Option Sort) → Option Asked
hot_of (Some by) (Some n) (Some sort) = Some (Hot by n sort)
hot_of by n sort = None

abbrev pub tree_of : (by : Option Measure) (least : Option ℕ) → Option Asked
tree_of (Some by) (Some least) = Some (Tree by least)
tree_of by least = None

abbrev pub flame_of : (by : Option Measure) (least : Option ℕ) → Option Asked
flame_of (Some by) (Some least) = Some (Flame by least)
flame_of by least = None

-- a text of no bytes is in every name, and asks for nothing
abbrev pub find_of : (by : Option Measure) (text : Option (List ℕ)) → Option Asked
find_of (Some by) (Some text) = cond (length text == 0) None (Some (Find by text))
find_of by text = None

abbrev pub context_of : (by : Option Measure) (id : Option ℕ) → Option Asked
context_of (Some by) (Some id) = Some (Context by id)
context_of by id = None

abbrev pub callers_of : Measure → (id : Option ℕ) → Option Asked
callers_of by None = None
callers_of by (Some id) = Some (Callers by id)

abbrev pub callers_named_of : Measure → (name : Option (List ℕ)) → Option Asked
callers_named_of by None = None
callers_named_of by (Some name) = Some (CallersNamed by name)

abbrev pub callers_by : (by : Option Measure) (id name : Option (List ℕ)) → Option Asked
callers_by None id name = None
callers_by (Some by) None name = callers_named_of by name
callers_by (Some by) (Some id) name = callers_of by (id_within id)

-- a page of tables
unfoldable pub table_of : (path pairs : List ℕ) → Option Asked
table_of path pairs =
    cond (bytes_eq path (codes "hot")) (hot_of (measure_asked pairs) (count_asked pairs) (sort_asked pairs))
    (cond (bytes_eq path (codes "find")) (find_of (measure_asked pairs) (value_of (codes "name") pairs))
    (cond (bytes_eq path (codes "context")) (context_of (measure_asked pairs) (id_in pairs))
    (cond (bytes_eq path (codes "callers")) (callers_by (measure_asked pairs) (value_of (codes "id") pairs) (value_of (codes "name") pairs))
    (cond (bytes_eq path (codes "tree")) (tree_of (measure_asked pairs) (least_asked 5 pairs))
    (cond (bytes_eq path (codes "flame")) (flame_of (measure_asked pairs) (least_asked 1 pairs)) None)))))

-- what path and pairs ask for, where they are a query: a pair that its path doesn't take is no matter, and one that is missing makes no query
unfoldable pub query_of : (path pairs : List ℕ) → Option Asked
query_of path pairs =
    cond (bytes_eq path [] || bytes_eq path (codes "menu")) (Some Menu)
    (cond (bytes_eq path (codes "root")) (Some Root)
    (cond (bytes_eq path (codes "clique")) (clique_by (value_of (codes "id") pairs) (value_of (codes "name") pairs))
    (cond (bytes_eq path (codes "procs")) (Some Procs)
    (cond (bytes_eq path (codes "top")) (top_of (measure_in pairs) (count_in pairs))
    (cond (bytes_eq path (codes "proc")) (proc_by (value_of (codes "id") pairs) (value_of (codes "name") pairs))
    (cond (bytes_eq path (codes "modules")) (Some Modules)
    (cond (bytes_eq path (codes "module")) (module_of (value_of (codes "name") pairs)) (table_of path pairs))))))))

-- what is asked for has a text, which is kept
abbrev pub has_text : Asked → Bool
has_text Menu = false
has_text Root = false
has_text (Clique id) = false
has_text Procs = false
has_text (Top by n) = false
has_text (Proc id) = false
has_text Modules = false
has_text (Module name) = true
has_text (Hot by n sort) = false
has_text (Tree by least) = false
has_text (Flame by least) = false
has_text (Find by text) = true
has_text (Context by id) = false
has_text (Callers by id) = false
has_text (CallersNamed by name) = true
has_text (ProcNamed name) = true
has_text (CliqueNamed name) = true

abbrev pub keeps_text : Option Asked → Bool
keeps_text None = false
keeps_text (Some asked) = has_text asked

-- the path is one whose query takes pairs
abbrev pub takes_pairs : (path : List ℕ) → Bool
takes_pairs path =
    bytes_eq path (codes "clique") || bytes_eq path (codes "top") || bytes_eq path (codes "proc") || bytes_eq path (codes "hot") || bytes_eq path (codes "find") || bytes_eq path (codes "context") || bytes_eq path (codes "callers") || bytes_eq path (codes "tree") || bytes_eq path (codes "flame") || bytes_eq path (codes "module")
