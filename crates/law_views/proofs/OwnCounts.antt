-- Own counts of a run and of its profile, row kind by row kind.
use Rattle.std.proofs.Common.{◌≡◌, ℕ, zero, suc, Bool, eqb, List, [], ◌∷◌, map, Option, Some, None, refl, sym, ap, ◌∙◌, inl, inr}
use Rattle.std.specs.List.{slice_get}
use Rattle.std.specs.Option.{option_map}
use Rattle.std.specs.Prelude.{option_and_then}
use Rattle.std.proofs.lemmas.Bool.{cases_eq, ne_eqb}
use Rattle.md_base.specs.declared.measure.Measure.{Measure}
use Rattle.md_trace.specs.declared.event.Event.{Event}
use Rattle.md_trace.specs.Activation.{numbered}
use Rattle.md_trace.specs.PortHistory.{SiteTable, IsPortHistory}
use Rattle.md_trace.specs.Context.{Placed, placed_of, same_option}
use Rattle.md_trace.specs.Links.{Leading}
use Rattle.md_trace.specs.Count.{passes, passing}
use Rattle.md_trace.specs.Totals.{in_context, in_procedure, at_site, in_module, own}
use Rattle.md_static.specs.Tables.{Static}
use Rattle.md_static.specs.declared.entry.Proc.{Proc}
use Rattle.md_dynamic.specs.declared.link.LinkRow.{LinkRow}
use Rattle.md_dynamic.specs.OfHistory.{IsProfileOf, row_of}
use Rattle.md_dynamic.specs.Profile.{ProfileRows}
use Rattle.md_clique.specs.OneEntry.{links_of}
use Rattle.md_cost.specs.Totals.{sum_where as rows_where, count_at}
use Rattle.md_cost.specs.View.{Row, OfLink, OfContext, OfClique, OfProcedure, OfSite, OfModule}
use Rattle.md_cost.specs.FileView.{file_own, module_at, procedure_at}
use Rattle.law_views.specs.RunView.{modules_of, own_of_link, run_own}
use Rattle.law_views.proofs.Counting.{right, count_rows, count_one}

pub at_map : {X Y : Type 0} (f : X → Y) (xs : List X) (i : ℕ) → slice_get (map f xs) i ≡ option_map f (slice_get xs i)
at_map f [] i = refl
at_map f (x ∷ xs) zero = refl
at_map f (x ∷ xs) (suc i) = at_map f xs i

pub turned : (a b : ℕ) → eqb a b ≡ eqb b a
turned a b = elim (cases_eq a b) [
  | inl same ↦ rw same refl
  | inr other ↦ rw (ne_eqb a b other, ne_eqb b a (λ e. other (sym e))) refl
]

module _ (t : SiteTable) (s : Static) (h : List Event) (finished : Bool) (f : ProfileRows) (is : IsPortHistory t h) (of : IsProfileOf s t.main h finished f) where
  -- the rows as the count over activations that pass a test
  over : (test : Placed → Bool) (T : LinkRow → Bool) (m : Measure) → ((a : ℕ) (y : Placed) → numbered (placed_of t.main h) a ≡ Some y → test y ≡ T (row_of t.main h (record { link = y.link; to = y.context })))
      → rows_where T m f.links ≡ own t.main h test m
  over test T m same =
      ap (λ (rows : List LinkRow). rows_where T m rows) of.links_are
      ∙ sym (count_rows t h is (passing (placed_of t.main h) test) T m (λ a y there. ap (passes test) there ∙ same a y there))

  pub at_node : (a : ℕ) (y : Placed) → numbered (placed_of t.main h) a ≡ Some y → slice_get f.nodes y.context ≡ Some y.link.procedure
  at_node a y there = ap (λ (ns : List ℕ). slice_get ns y.context) of.contexts_are ∙ (right t h is).in_contexts a y there

  pub at_module : (a : ℕ) (y : Placed) → numbered (placed_of t.main h) a ≡ Some y → module_at f y.context ≡ slice_get (modules_of s) y.link.procedure
  at_module a y there =
      ap (λ (o : Option ℕ). option_and_then (λ q. option_map (λ (p : Proc). p.module) (slice_get f.statics.procs q)) o) (at_node a y there)
      ∙ ap (λ (x : Static). option_map (λ (p : Proc). p.module) (slice_get x.procs y.link.procedure)) of.tables
      ∙ sym (at_map (λ (p : Proc). p.module) s.procs y.link.procedure)

  link_row : (p : ℕ) (o : Option Leading) (m : Measure) → slice_get (links_of t.main h) p ≡ o → count_at (option_map (row_of t.main h) o) m ≡ own_of_link t.main h o m
  link_row p None m at = refl
  link_row p (Some x) m at = sym (count_one t h is p x m at)

  pub own_agrees : (row : Row) (m : Measure) → file_own f row m ≡ run_own s t.main h row m
  own_agrees (OfLink p) m =
      ap (λ (rows : List LinkRow). Some (count_at (slice_get rows p) m)) of.links_are
      ∙ ap (λ (o : Option LinkRow). Some (count_at o m)) (at_map (row_of t.main h) (links_of t.main h) p)
      ∙ ap (λ (n : ℕ). Some n) (link_row p (slice_get (links_of t.main h) p) m refl)
  own_agrees (OfContext c) m = ap (λ (n : ℕ). Some n) (over (in_context c) (λ r. eqb r.callee c) m (λ a y there. turned c y.context))
  own_agrees (OfClique k) m = refl
  own_agrees (OfProcedure q) m = ap (λ (n : ℕ). Some n) (over (in_procedure q) (λ r. same_option (Some q) (procedure_at f r.callee)) m (λ a y there. ap (same_option (Some q)) (sym (at_node a y there))))
  own_agrees (OfSite x) m = ap (λ (n : ℕ). Some n) (over (at_site x) (λ r. same_option (Some x) r.site) m (λ a y there. refl))
  own_agrees (OfModule k) m = ap (λ (n : ℕ). Some n) (over (in_module (modules_of s) k) (λ r. same_option (Some k) (module_at f r.callee)) m (λ a y there. ap (same_option (Some k)) (sym (at_module a y there))))
