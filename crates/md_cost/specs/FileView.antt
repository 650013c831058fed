-- The view of a profile that is read from a file. There is no trace to ask: the events of a link are its counts, and
-- the path of the context to which it leads, up to clique 0, plays the part of the stations.
use Rattle.std.specs.Prelude.{ℕ, ◌≡◌, ◌<◌, ◌==◌, Bool, List, [], length, map, Option, Some, None, slice_get, slice_index, slice_index_or, if◌then◌else◌, option_and_then}
use Rattle.std.specs.Option.{option_map}
use Rattle.std.specs.List.{list_any}
use Rattle.md_base.specs.declared.measure.Measure.{Measure}
use Rattle.md_trace.specs.Context.{same_option}
use Rattle.md_trace.specs.Cliques.{leaves}
use Rattle.md_dynamic.specs.Profile.{ProfileRows}
use Rattle.md_dynamic.specs.declared.link.LinkRow.{LinkRow}
use Rattle.md_clique.specs.OneEntry.{BeginsWith, IsPathUp}
use Rattle.md_cost.specs.Paths.{ends}
use Rattle.md_cost.specs.Totals.{sum_where, link_own, context_own}
use Rattle.md_cost.specs.SumOf.{sum_of, zero_sums}
use Rattle.md_cost.specs.declared.sums.Sums.{Sums}
use Rattle.md_cost.specs.Tree.{IsTree}
use Rattle.md_cost.specs.View.{Row, Join, View, OfLink, OfContext, OfClique, OfProcedure, OfSite, OfModule}

-- the path of each context: itself, the start of the link that enters its clique, and so on up to clique 0
pub record ArePaths (cliques : List ℕ) (links : List (Option ℕ × ℕ)) (paths : List (List ℕ)) : Type 0 where
  pub each : length paths ≡ length cliques
  pub begin : (c : ℕ) → c < length cliques → BeginsWith c (slice_index_or paths c [])
  pub up : (c : ℕ) → c < length cliques → IsPathUp cliques links (slice_index_or paths c [])

-- the sum of a measure over the links whose path has a context that passes a test
abbrev pub path_sum : List (List ℕ) → List LinkRow → (ℕ → Bool) → Measure → ℕ
path_sum paths rows test m = sum_where (λ r. list_any test (slice_index_or paths r.callee [])) m rows

-- the procedure of a context, the module of that, and the call site of the link that enters its clique
abbrev pub procedure_at : ProfileRows → ℕ → Option ℕ
procedure_at f d = slice_get f.nodes d

abbrev pub module_at : ProfileRows → ℕ → Option ℕ
module_at f d = option_and_then (λ q. option_map (λ p. p.module) (slice_get f.statics.procs q)) (slice_get f.nodes d)

abbrev pub site_above : ProfileRows → List ℕ → List ℕ → ℕ → Option ℕ
site_above f cliques entries d = option_and_then (λ r. r.site) (slice_get f.links (slice_index entries (slice_index cliques d)))

-- own counts: over the links to the context; to a context of the procedure, or of a procedure of the module; at the site
abbrev pub file_own : ProfileRows → Row → Measure → Option ℕ
file_own f (OfLink p) m = Some (link_own f.links p m)
file_own f (OfContext c) m = Some (context_own f.links c m)
file_own f (OfClique k) m = None
file_own f (OfProcedure q) m = Some (sum_where (λ r. same_option (Some q) (procedure_at f r.callee)) m f.links)
file_own f (OfSite s) m = Some (sum_where (λ r. same_option (Some s) r.site) m f.links)
file_own f (OfModule k) m = Some (sum_where (λ r. same_option (Some k) (module_at f r.callee)) m f.links)

-- the total of link p from a caller to a context: of the root link that of clique 0; of a link that leaves, over the
-- paths that come in by it; an inside link has none
abbrev pub total_from : ((ℕ → Bool) → Measure → ℕ) → List ℕ → List ℕ → ℕ → Option ℕ → ℕ → Measure → Option ℕ
total_from over cliques entries p None to m = Some (over (λ d. slice_index cliques d == 0) m)
total_from over cliques entries p (Some from) to m =
    if leaves cliques (Some from) to then Some (over (λ d. slice_index entries (slice_index cliques d) == p) m) else None

abbrev pub total_by_link : ((ℕ → Bool) → Measure → ℕ) → List ℕ → List ℕ → ℕ → Option LinkRow → Measure → Option ℕ
total_by_link over cliques entries p None m = None
total_by_link over cliques entries p (Some r) m = total_from over cliques entries p r.caller r.callee m

-- totals: over the links whose path has the context; a context of the clique; of the procedure; of a procedure of the
-- module; or of a clique that is entered at the site. Each link counts once.
abbrev pub total_by : ((ℕ → Bool) → Measure → ℕ) → ProfileRows → List ℕ → List ℕ → Row → Measure → Option ℕ
total_by over f cliques entries (OfLink p) m = total_by_link over cliques entries p (slice_get f.links p) m
total_by over f cliques entries (OfContext c) m = Some (over (λ d. d == c) m)
total_by over f cliques entries (OfClique k) m = Some (over (λ d. slice_index cliques d == k) m)
total_by over f cliques entries (OfProcedure q) m = Some (over (λ d. same_option (Some q) (procedure_at f d)) m)
total_by over f cliques entries (OfSite s) m = Some (over (λ d. same_option (Some s) (site_above f cliques entries d)) m)
total_by over f cliques entries (OfModule k) m = Some (over (λ d. same_option (Some k) (module_at f d)) m)

abbrev pub join_of : LinkRow → Join
join_of r = record { caller = r.caller; site = r.site; callee = r.callee }

abbrev pub file_view : ProfileRows → List ℕ → List ℕ → List (List ℕ) → View
file_view f cliques entries paths = record {
  statics = f.statics;
  nodes = f.nodes;
  links = map join_of f.links;
  finished = f.finished;
  cliques = cliques;
  entries = entries;
  own = file_own f;
  total = total_by (path_sum paths f.links) f cliques entries;
}

-- The view of a profile, which there is where each clique is entered by exactly one link.
pub record IsFileView (f : ProfileRows) (v : View) : Type 0 where
  pub tree : IsTree (length f.nodes) f.links v.cliques v.entries
  pub paths : List (List ℕ)
  pub paths_are : ArePaths v.cliques (ends f.links) paths
  pub is : v ≡ file_view f v.cliques v.entries paths

-- the sums of the rows of a kind, by number, are those of every view of the profile
pub record Gives (f : ProfileRows) (numbers : View → Row → Measure → Option ℕ) (row : ℕ → Row) (count : ℕ) (sums : List Sums) : Type 0 where
  pub each : length sums ≡ count
  pub is : (v : View) (i : ℕ) (m : Measure) → IsFileView f v → i < count → numbers v (row i) m ≡ Some (sum_of (slice_index_or sums i zero_sums) m)
