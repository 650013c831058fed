-- Own and total: which activations a row of a profile counts. Own counts ask the activation itself; totals ask its
-- chain, or its stations.
use Rattle.std.specs.Prelude.{ℕ, ◌==◌, ◌&&◌, Bool, not, List, [], ◌∷◌, Some, filter, slice_get, slice_index}
use Rattle.std.specs.List.{list_any}
use Rattle.md_base.specs.declared.measure.Measure.{Measure}
use Rattle.md_trace.specs.declared.event.Event.{Event}
use Rattle.md_trace.specs.Context.{Link, Placed, chain, placed_of, same_option, has_link}
use Rattle.md_trace.specs.Cliques.{leaves}
use Rattle.md_trace.specs.Count.{passing, count_over}

-- The stations of a chain, the nearest first: for each clique that it meets, its nearest activation there.
abbrev pub stations : List ℕ → List Placed → List Placed
stations cliques [] = []
stations cliques (x ∷ xs) =
    x ∷ filter (λ y. not (slice_index cliques y.context == slice_index cliques x.context)) (stations cliques xs)

-- an activation in this context
abbrev pub in_context : ℕ → Placed → Bool
in_context c x = c == x.context

-- an activation of this procedure
abbrev pub in_procedure : ℕ → Placed → Bool
in_procedure q x = q == x.link.procedure

-- an activation called at this site
abbrev pub at_site : ℕ → Placed → Bool
at_site s x = same_option (Some s) x.link.site

-- an activation of a procedure of this module, where the list has each procedure's module
abbrev pub in_module : List ℕ → ℕ → Placed → Bool
in_module modules k x = same_option (Some k) (slice_get modules x.link.procedure)

-- an activation in a context of this clique
abbrev pub in_clique : List ℕ → ℕ → Placed → Bool
in_clique cliques k x = k == slice_index cliques x.context

-- an activation whose link leaves
abbrev pub is_entering : List ℕ → Placed → Bool
is_entering cliques x = leaves cliques x.link.caller x.context

-- The own count of a row: over the activations that pass the row's test, which is `has_link` of a link, `in_context`,
-- `in_procedure`, `at_site` or `in_module`. A clique has none.
abbrev pub own : ℕ → List Event → (Placed → Bool) → Measure → ℕ
own main h test m = count_over main h (passing (placed_of main h) test) m

-- over the activations some member of whose chain passes the test
abbrev pub chain_total : ℕ → List Event → (Placed → Bool) → Measure → ℕ
chain_total main h test m = count_over main h (λ a. list_any test (chain (placed_of main h) (Some a))) m

-- over the activations some station of whose chain passes the test
abbrev pub station_total : ℕ → List Event → List ℕ → (Placed → Bool) → Measure → ℕ
station_total main h cliques test m =
    count_over main h (λ a. list_any test (stations cliques (chain (placed_of main h) (Some a)))) m

-- the total of a leaving link; an inside link has none
abbrev pub link_total : ℕ → List Event → Link → Measure → ℕ
link_total main h l m = chain_total main h (has_link l) m

-- the total of a clique; that of the root link is the total of clique 0
abbrev pub clique_total : ℕ → List Event → List ℕ → ℕ → Measure → ℕ
clique_total main h cliques k m = chain_total main h (in_clique cliques k) m

-- the total of a context
abbrev pub context_total : ℕ → List Event → List ℕ → ℕ → Measure → ℕ
context_total main h cliques c m = station_total main h cliques (in_context c) m

-- the total of a procedure
abbrev pub procedure_total : ℕ → List Event → List ℕ → ℕ → Measure → ℕ
procedure_total main h cliques q m = station_total main h cliques (in_procedure q) m

-- the total of a call site: over the activations whose chain has a leaving link at the site
abbrev pub site_total : ℕ → List Event → List ℕ → ℕ → Measure → ℕ
site_total main h cliques s m = chain_total main h (λ x. at_site s x && is_entering cliques x) m

-- the total of a module
abbrev pub module_total : ℕ → List Event → List ℕ → List ℕ → ℕ → Measure → ℕ
module_total main h cliques modules k m = station_total main h cliques (in_module modules k) m
