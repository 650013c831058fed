-- The view of a run: what each row counts, by activations, their chains and their stations.
use Rattle.std.specs.Prelude.{ℕ, ◌≡◌, Bool, List, map, Option, Some, None, slice_get, if◌then◌else◌}
use Rattle.md_base.specs.declared.measure.Measure.{Measure}
use Rattle.md_trace.specs.declared.event.Event.{Event}
use Rattle.md_trace.specs.Context.{placed_of, contexts, has_link}
use Rattle.md_trace.specs.Links.{Leading}
use Rattle.md_trace.specs.Cliques.{leaves}
use Rattle.md_trace.specs.Totals.{in_context, in_procedure, at_site, in_module, own, link_total, clique_total, context_total, procedure_total, site_total, module_total}
use Rattle.md_static.specs.Tables.{Static}
use Rattle.md_clique.specs.Entries.{AreEntries}
use Rattle.md_clique.specs.OneEntry.{AreCliquesOf, ends_of, links_of}
use Rattle.md_cost.specs.View.{Row, Join, View, OfLink, OfContext, OfClique, OfProcedure, OfSite, OfModule}

-- each procedure's module
abbrev pub modules_of : Static → List ℕ
modules_of s = map (λ p. p.module) s.procs

abbrev pub own_of_link : ℕ → List Event → Option Leading → Measure → ℕ
own_of_link main h None m = 0
own_of_link main h (Some x) m = own main h (has_link x.link) m

-- own counts ask the activation itself
abbrev pub run_own : Static → ℕ → List Event → Row → Measure → Option ℕ
run_own s main h (OfLink p) m = Some (own_of_link main h (slice_get (links_of main h) p) m)
run_own s main h (OfContext c) m = Some (own main h (in_context c) m)
run_own s main h (OfClique k) m = None
run_own s main h (OfProcedure q) m = Some (own main h (in_procedure q) m)
run_own s main h (OfSite x) m = Some (own main h (at_site x) m)
run_own s main h (OfModule k) m = Some (own main h (in_module (modules_of s) k) m)

abbrev pub total_from : ℕ → List Event → List ℕ → Leading → Option ℕ → Measure → Option ℕ
total_from main h cliques x None m = Some (clique_total main h cliques 0 m)
total_from main h cliques x (Some from) m = if leaves cliques (Some from) x.to then Some (link_total main h x.link m) else None

abbrev pub total_of_link : ℕ → List Event → List ℕ → Option Leading → Measure → Option ℕ
total_of_link main h cliques None m = None
total_of_link main h cliques (Some x) m = total_from main h cliques x x.link.caller m

-- totals ask its chain or its stations
abbrev pub run_total : Static → ℕ → List Event → List ℕ → Row → Measure → Option ℕ
run_total s main h cliques (OfLink p) m = total_of_link main h cliques (slice_get (links_of main h) p) m
run_total s main h cliques (OfContext c) m = Some (context_total main h cliques c m)
run_total s main h cliques (OfClique k) m = Some (clique_total main h cliques k m)
run_total s main h cliques (OfProcedure q) m = Some (procedure_total main h cliques q m)
run_total s main h cliques (OfSite x) m = Some (site_total main h cliques x m)
run_total s main h cliques (OfModule k) m = Some (module_total main h cliques (modules_of s) k m)

abbrev pub run_join : Leading → Join
run_join x = record { caller = x.link.caller; site = x.link.site; callee = x.to }

abbrev pub run_view : Static → ℕ → List Event → Bool → List ℕ → List ℕ → View
run_view s main h finished cliques entries = record {
  statics = s;
  nodes = contexts main (placed_of main h);
  links = map run_join (links_of main h);
  finished = finished;
  cliques = cliques;
  entries = entries;
  own = run_own s main h;
  total = run_total s main h cliques;
}

-- the view of a history
pub record IsRunView (s : Static) (main : ℕ) (h : List Event) (finished : Bool) (v : View) : Type 0 where
  pub cliques_are : AreCliquesOf main h v.cliques
  pub entries_are : AreEntries v.cliques (ends_of (links_of main h)) v.entries
  pub is : v ≡ run_view s main h finished v.cliques v.entries
