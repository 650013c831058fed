-- Worked runs and profiles, computed.
use Rattle.std.proofs.Common.{◌≡◌, ℕ, true, false, List, [], ◌∷◌, Option, Some, None, map, refl}
use Rattle.md_base.specs.declared.measure.Counts.{Counts}
use Rattle.md_base.specs.declared.measure.Measure.{Measure}
use Rattle.md_base.specs.declared.measure.Measure.TheVariants.{Calls, Exits, Allocs, Words}
use Rattle.md_trace.specs.declared.event.Event.{Event}
use Rattle.md_trace.specs.declared.event.Event.TheVariants.{Call, Exit, Alloc}
use Rattle.md_trace.specs.Context.{chain, placed_of}
use Rattle.md_trace.specs.Totals.{stations, own, in_procedure, procedure_total, site_total, clique_total, module_total}
use Rattle.md_dynamic.specs.declared.link.LinkRow.{LinkRow}
use Rattle.md_dynamic.specs.Profile.{ProfileRows}
use Rattle.md_clique.specs.Cliques.{members_of}
use Rattle.md_cost.specs.Lists.{starts_of}
use Rattle.md_cost.specs.Paths.{leads_up, path_of}
use Rattle.md_cost.specs.Walking.{at_bound}
use Rattle.md_cost.specs.View.{Row, OfLink, OfContext, OfClique, OfProcedure, OfSite}
use Rattle.md_cost.specs.FileView.{file_own, file_view}

-- The stations: a calls b, which calls a again from another site, whose contexts are three cliques. The last activation
-- has them all as stations, the nearest first.
abbrev mods : List Event
mods = Call 3 (Some 2) (Some 2) 3 ∷ Call 2 (Some 1) (Some 1) 2 ∷ Call 1 (Some 0) (Some 0) 1 ∷ Call 0 None None 0 ∷ []

abbrev station_contexts : List Event → List ℕ → ℕ → List ℕ
station_contexts h cliques a = map (λ x. x.context) (stations cliques (chain (placed_of 0 h) (Some a)))

mods_stations : station_contexts mods (0 ∷ 1 ∷ 2 ∷ 3 ∷ []) 3 ≡ 3 ∷ 2 ∷ 1 ∷ 0 ∷ []
mods_stations = refl

-- where two contexts are in one clique, the nearer one is its station
one_clique_stations : station_contexts mods (0 ∷ 1 ∷ 1 ∷ 1 ∷ []) 3 ≡ 3 ∷ 0 ∷ []
one_clique_stations = refl

-- module 1 is twice among the stations, and the last call counts once in its total
mods_module : module_total 0 mods (0 ∷ 1 ∷ 2 ∷ 3 ∷ []) (0 ∷ 1 ∷ 2 ∷ 1 ∷ []) 1 Calls ≡ 3
mods_module = refl

-- A run with closures: main makes two, and calls drive; drive calls the one (add), itself, the other (double), itself,
-- the first, itself, and is done. Procedures main, drive, add, double; sites main's, drive's closure, drive's own.
abbrev calls : List Event
calls =
    Call 7 (Some 5) (Some 2) 1 ∷ Exit 6 ∷ Call 6 (Some 5) (Some 1) 2 ∷ Call 5 (Some 3) (Some 2) 1 ∷ Exit 4 ∷ Call 4 (Some 3) (Some 1) 3
    ∷ Call 3 (Some 1) (Some 2) 1 ∷ Exit 2 ∷ Call 2 (Some 1) (Some 1) 2 ∷ Call 1 (Some 0) (Some 0) 1 ∷ Alloc 0 3 ∷ Alloc 0 4 ∷ Call 0 None None 0 ∷ []

abbrev ho : List Event
ho = Exit 0 ∷ Exit 1 ∷ Exit 3 ∷ Exit 5 ∷ Exit 7 ∷ calls

abbrev ho_cliques : List ℕ
ho_cliques = 0 ∷ 1 ∷ 2 ∷ 3 ∷ []

ho_totals :
    (clique_total 0 ho ho_cliques 1 Calls ≡ 7) × (own 0 ho (in_procedure 1) Calls ≡ 4) × (procedure_total 0 ho ho_cliques 2 Exits ≡ 2) × (procedure_total 0 ho ho_cliques 3 Exits ≡ 1)
    × (site_total 0 ho ho_cliques 1 Calls ≡ 3) × (site_total 0 ho ho_cliques 2 Calls ≡ 0) × (own 0 ho (in_procedure 0) Allocs ≡ 2) × (own 0 ho (in_procedure 0) Words ≡ 7)
ho_totals = (refl, refl, refl, refl, refl, refl, refl, refl)

-- A run in which a goal is cut at its first solution: main makes a list of three cells, and member's activation is pruned
-- after its exit.
abbrev some_begun : List Event
some_begun = Exit 1 ∷ Call 1 (Some 0) (Some 0) 1 ∷ Alloc 0 2 ∷ Alloc 0 2 ∷ Alloc 0 2 ∷ Call 0 None None 0 ∷ []

some_totals :
    (procedure_total 0 (Exit 0 ∷ some_begun) (0 ∷ 1 ∷ []) 0 Exits ≡ 2) × (procedure_total 0 (Exit 0 ∷ some_begun) (0 ∷ 1 ∷ []) 0 Words ≡ 6)
    × (procedure_total 0 (Exit 0 ∷ some_begun) (0 ∷ 1 ∷ []) 1 Exits ≡ 1) × (own 0 (Exit 0 ∷ some_begun) (in_procedure 0) Allocs ≡ 3)
some_totals = (refl, refl, refl, refl)

-- where the budget ends before main's exit, main has a call and no exit, and its total has member's exit alone
unfinished : (own 0 some_begun (in_procedure 0) Calls ≡ 1) × (own 0 some_begun (in_procedure 0) Exits ≡ 0) × (procedure_total 0 some_begun (0 ∷ 1 ∷ []) 0 Calls ≡ 2) × (procedure_total 0 some_begun (0 ∷ 1 ∷ []) 0 Exits ≡ 1)
unfinished = (refl, refl, refl, refl)

-- The profile of the run with closures as a file, and its view.
abbrev twice_counted : ℕ → Counts
twice_counted n = record { calls = n; exits = n; fails = 0; redos = 0; allocs = 0; words = 0; excps = 0 }

abbrev from : ℕ → ℕ → ℕ → ℕ → LinkRow
from a s b n = record { caller = Some a; site = Some s; callee = b; own = twice_counted n }

abbrev root : LinkRow
root = record { caller = None; site = None; callee = 0; own = twice_counted 1 }

abbrev ho_file : ProfileRows
ho_file = record { statics = record { modules = []; procs = []; sites = [] }; nodes = 0 ∷ 1 ∷ 2 ∷ 3 ∷ []; links = root ∷ from 0 0 1 1 ∷ from 1 1 2 2 ∷ from 1 2 1 3 ∷ from 1 1 3 1 ∷ []; finished = true }

abbrev ho_total : Row → Measure → Option ℕ
ho_total = (file_view ho_file ho_cliques (0 ∷ 1 ∷ 2 ∷ 4 ∷ []) ((0 ∷ []) ∷ (1 ∷ 0 ∷ []) ∷ (2 ∷ 1 ∷ 0 ∷ []) ∷ (3 ∷ 1 ∷ 0 ∷ []) ∷ [])).total

ho_file_totals :
    (ho_total (OfLink 0) Calls ≡ Some 8) × (ho_total (OfLink 1) Calls ≡ Some 7) × (ho_total (OfLink 2) Calls ≡ Some 2) × (ho_total (OfLink 3) Calls ≡ None) × (ho_total (OfLink 4) Calls ≡ Some 1)
    × (ho_total (OfContext 1) Calls ≡ Some 7) × (ho_total (OfClique 0) Calls ≡ Some 8) × (ho_total (OfProcedure 2) Exits ≡ Some 2) × (ho_total (OfSite 1) Exits ≡ Some 3) × (ho_total (OfSite 2) Exits ≡ Some 0)
    × (file_own ho_file (OfSite 2) Calls ≡ Some 3) × (file_own ho_file (OfClique 1) Calls ≡ None)
ho_file_totals = (refl, refl, refl, refl, refl, refl, refl, refl, refl, refl, refl, refl)

-- its paths in so many steps
ho_paths : (path_of ho_cliques (0 ∷ 1 ∷ 2 ∷ 4 ∷ []) ho_file.links 3 ≡ 3 ∷ 1 ∷ 0 ∷ []) × (path_of ho_cliques (0 ∷ 1 ∷ 2 ∷ 4 ∷ []) ho_file.links 0 ≡ 0 ∷ [])
ho_paths = (refl, refl)

-- A link to an older context, as that of the recursion, doesn't lead up; one to the context itself does. The links from
-- drive's context are those whose caller it is, and the root link stands past the last context.
ho_lists :
    (leads_up (Some 1) 3 ≡ true) × (leads_up (Some 3) 1 ≡ false) × (leads_up (Some 1) 1 ≡ true) × (leads_up None 0 ≡ true)
    × (starts_of 4 ho_file.links ≡ 4 ∷ 0 ∷ 1 ∷ 1 ∷ 1 ∷ []) × (members_of (starts_of 4 ho_file.links) 1 ≡ 2 ∷ 3 ∷ 4 ∷ []) × (members_of (starts_of 4 ho_file.links) 2 ≡ [])
    × (members_of (starts_of 4 ho_file.links) 4 ≡ 0 ∷ [])
ho_lists = (refl, refl, refl, refl, refl, refl, refl, refl)

-- a bound is one more than an item, and there is none where it is 0
bounds : (at_bound 0 ≡ None) × (at_bound 1 ≡ Some 0) × (at_bound 4 ≡ Some 3)
bounds = (refl, refl, refl)

-- a link whose exits are full counts as many as it shows, and a total has more than one link can show
abbrev full : ProfileRows
full = record { statics = record { modules = []; procs = []; sites = [] }; nodes = 0 ∷ 1 ∷ []; links = root ∷ record (from 0 0 1 1) { own = record (twice_counted 1) { exits = 4294967295 } } ∷ []; finished = true }

full_total : ((file_view full (0 ∷ 1 ∷ []) (0 ∷ 1 ∷ []) ((0 ∷ []) ∷ (1 ∷ 0 ∷ []) ∷ [])).total (OfClique 0) Exits ≡ Some 4294967296) × (file_own full (OfContext 1) Exits ≡ Some 4294967295)
full_total = (refl, refl)
